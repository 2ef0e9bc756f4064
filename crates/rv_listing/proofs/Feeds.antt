-- No text has a line feed, so a source of texts is read line by line.
use Rattle.std.proofs.Common.{◌≡◌, ◌≢◌, ◌∙◌, ℕ, ◌+◌, ◌/◌, ◌%◌, ◌<◌, ◌^◌, ℤ, pos, negsuc, suc, Bool, true, false, cond, eqb, List, [], ◌∷◌, ◌++◌, Option, Some, None, refl, sym, ap, subst, arith}
use Rattle.std.specs.Prelude.{decimal, nat_lt}
use Rattle.std.specs.Fmt.{signed_decimal}
use Rattle.std.specs.Str.Parse.{AllDigits}
use Rattle.std.proofs.lemmas.Fmt.{decimal_is_IsNumeral}
use Rattle.std.proofs.lemmas.Str.Parse.{digit_from_value}
use Rattle.std.proofs.lemmas.Bool.{false≢true, cond-false, ne_eqb, cond_both}
use Rattle.rv_isa.specs.declared.operand.Register.{Register}
use Rattle.rv_isa.specs.declared.operation.BranchCondition.TheVariants as branchconditions
use Rattle.rv_isa.specs.declared.operation.ImmediateOp.TheVariants as immediateops
use Rattle.rv_isa.specs.declared.operation.LoadOp.TheVariants as loadops
use Rattle.rv_isa.specs.declared.operation.RegisterOp.TheVariants as registerops
use Rattle.rv_isa.specs.declared.operation.RegisterWordOp.TheVariants as registerwordops
use Rattle.rv_isa.specs.declared.operation.ShiftOp.TheVariants as shiftops
use Rattle.rv_isa.specs.declared.operation.StoreOp.TheVariants as storeops
use Rattle.rv_isa.specs.declared.instr.Instr.{Instr}
use Rattle.rv_isa.specs.declared.instr.Instr.TheVariants as instructions
use Rattle.rv_listing.specs.declared.names.Operation.{Operation}
use Rattle.rv_listing.specs.declared.names.Operation.TheVariants as operations
use Rattle.rv_listing.specs.Texts.{name_of, one_register, two_registers, based, operands_of, register_text, instr_text, fence_value, hex_digit, hex8, text_in}
use Rattle.rv_listing.specs.Assembly.{before_first, lines_of, AreTexts, AreSource, TextsAssemble}
use Rattle.rv_listing.specs.Reading.{operation_of, operation_name}
use Rattle.rv_listing.proofs.Operations.{name_of_operation}
use Rattle.rv_listing.proofs.Scanning.{IsSmall, small_between, fence_small}

-- whether no line ends in it
abbrev clean : List ℕ → Bool
clean [] = true
clean (b ∷ bs) = cond (eqb b 10) false (clean bs)

clean_append : (xs ys : List ℕ) → clean xs ≡ true → clean (xs ++ ys) ≡ clean ys
clean_append [] ys h = refl
clean_append (b ∷ bs) ys h =
    let P : Bool → Type 0 = λ v. cond v false (clean bs) ≡ true → cond v false (clean (bs ++ ys)) ≡ clean ys in
    let f : P (eqb b 10) = elim (eqb b 10) as P [
      | true ↦ λ (e : false ≡ true). absurd (false≢true e)
      | false ↦ λ (e : clean bs ≡ true). clean_append bs ys e
    ] in
    f h

line_ends : (xs ys : List ℕ) → clean xs ≡ true → lines_of (xs ++ 10 ∷ ys) ≡ xs ∷ lines_of ys
line_ends [] ys h = refl
line_ends (b ∷ bs) ys h =
    let P : Bool → Type 0 = λ v. cond v false (clean bs) ≡ true
    → cond v ([] ∷ lines_of (bs ++ 10 ∷ ys)) (before_first b (lines_of (bs ++ 10 ∷ ys))) ≡ (b ∷ bs) ∷ lines_of ys in
    let f : P (eqb b 10) = elim (eqb b 10) as P [
      | true ↦ λ (e : false ≡ true). absurd (false≢true e)
      | false ↦ λ (e : clean bs ≡ true). ap (before_first b) (line_ends bs ys e)
    ] in
    f h

clean_more : (b : ℕ) (bs : List ℕ) → (b ≡ 10 → ⊥) → clean bs ≡ true → clean (b ∷ bs) ≡ true
clean_more b bs other h = cond-false (eqb b 10) false (clean bs) (ne_eqb b 10 other) ∙ h

digits_clean : (ds : List ℕ) → AllDigits 10 ds → clean ds ≡ true
digits_clean [] all = refl
digits_clean (d ∷ ds) all =
    let h = digit_from_value d all.0 in
    clean_more d ds (λ (e : d ≡ 10). absurd (omega (arith, h, e))) (digits_clean ds all.1)

decimal_clean : (n : ℕ) → n < 1000000000 → clean (decimal n) ≡ true
decimal_clean n small = digits_clean (decimal n) (decimal_is_IsNumeral n (omega arith)).0.1

signed_clean : (z : ℤ) → IsSmall z → clean (signed_decimal z) ≡ true
signed_clean (pos n) small = decimal_clean n small
signed_clean (negsuc n) small = decimal_clean (suc n) small

name_clean : (o : Operation) → clean (operation_name o) ≡ true
name_clean operations.Lui = refl
name_clean operations.Auipc = refl
name_clean operations.Jal = refl
name_clean operations.Jalr = refl
name_clean operations.Addiw = refl
name_clean operations.Fence = refl
name_clean operations.Ecall = refl
name_clean operations.Ebreak = refl
name_clean (operations.Branch branchconditions.Eq) = refl
name_clean (operations.Branch branchconditions.Ne) = refl
name_clean (operations.Branch branchconditions.Lt) = refl
name_clean (operations.Branch branchconditions.Ge) = refl
name_clean (operations.Branch branchconditions.Ltu) = refl
name_clean (operations.Branch branchconditions.Geu) = refl
name_clean (operations.Load loadops.Lb) = refl
name_clean (operations.Load loadops.Lh) = refl
name_clean (operations.Load loadops.Lw) = refl
name_clean (operations.Load loadops.Ld) = refl
name_clean (operations.Load loadops.Lbu) = refl
name_clean (operations.Load loadops.Lhu) = refl
name_clean (operations.Load loadops.Lwu) = refl
name_clean (operations.Store storeops.Sb) = refl
name_clean (operations.Store storeops.Sh) = refl
name_clean (operations.Store storeops.Sw) = refl
name_clean (operations.Store storeops.Sd) = refl
name_clean (operations.RegisterImmediate immediateops.Addi) = refl
name_clean (operations.RegisterImmediate immediateops.Slti) = refl
name_clean (operations.RegisterImmediate immediateops.Sltiu) = refl
name_clean (operations.RegisterImmediate immediateops.Xori) = refl
name_clean (operations.RegisterImmediate immediateops.Ori) = refl
name_clean (operations.RegisterImmediate immediateops.Andi) = refl
name_clean (operations.Shift shiftops.Slli) = refl
name_clean (operations.Shift shiftops.Srli) = refl
name_clean (operations.Shift shiftops.Srai) = refl
name_clean (operations.ShiftWord shiftops.Slli) = refl
name_clean (operations.ShiftWord shiftops.Srli) = refl
name_clean (operations.ShiftWord shiftops.Srai) = refl
name_clean (operations.RegisterRegister registerops.Add) = refl
name_clean (operations.RegisterRegister registerops.Sub) = refl
name_clean (operations.RegisterRegister registerops.Sll) = refl
name_clean (operations.RegisterRegister registerops.Slt) = refl
name_clean (operations.RegisterRegister registerops.Sltu) = refl
name_clean (operations.RegisterRegister registerops.Xor) = refl
name_clean (operations.RegisterRegister registerops.Srl) = refl
name_clean (operations.RegisterRegister registerops.Sra) = refl
name_clean (operations.RegisterRegister registerops.Or) = refl
name_clean (operations.RegisterRegister registerops.And) = refl
name_clean (operations.RegisterRegister registerops.Mul) = refl
name_clean (operations.RegisterRegister registerops.Mulh) = refl
name_clean (operations.RegisterRegister registerops.Mulhsu) = refl
name_clean (operations.RegisterRegister registerops.Mulhu) = refl
name_clean (operations.RegisterRegister registerops.Div) = refl
name_clean (operations.RegisterRegister registerops.Divu) = refl
name_clean (operations.RegisterRegister registerops.Rem) = refl
name_clean (operations.RegisterRegister registerops.Remu) = refl
name_clean (operations.RegisterRegisterWord registerwordops.Addw) = refl
name_clean (operations.RegisterRegisterWord registerwordops.Subw) = refl
name_clean (operations.RegisterRegisterWord registerwordops.Sllw) = refl
name_clean (operations.RegisterRegisterWord registerwordops.Srlw) = refl
name_clean (operations.RegisterRegisterWord registerwordops.Sraw) = refl
name_clean (operations.RegisterRegisterWord registerwordops.Mulw) = refl
name_clean (operations.RegisterRegisterWord registerwordops.Divw) = refl
name_clean (operations.RegisterRegisterWord registerwordops.Divuw) = refl
name_clean (operations.RegisterRegisterWord registerwordops.Remw) = refl
name_clean (operations.RegisterRegisterWord registerwordops.Remuw) = refl

one_clean : (a : Register) (number : List ℕ) → clean number ≡ true → clean (one_register a number) ≡ true
one_clean a number h = clean_append (decimal a.number) (44 ∷ 32 ∷ number) (decimal_clean a.number (omega arith)) ∙ h

two_clean : (a b : Register) (last : List ℕ) → clean last ≡ true → clean (two_registers a b last) ≡ true
two_clean a b last h =
    clean_append (decimal a.number) (44 ∷ 32 ∷ 120 ∷ (decimal b.number ++ (44 ∷ 32 ∷ last))) (decimal_clean a.number (omega arith))
    ∙ (clean_append (decimal b.number) (44 ∷ 32 ∷ last) (decimal_clean b.number (omega arith)) ∙ h)

based_clean : (a : Register) (offset : ℤ) (base : Register) → IsSmall offset → clean (based a offset base) ≡ true
based_clean a offset base small =
    clean_append (decimal a.number) (44 ∷ 32 ∷ (signed_decimal offset ++ (40 ∷ 120 ∷ (decimal base.number ++ (41 ∷ []))))) (decimal_clean a.number (omega arith))
    ∙ (clean_append (signed_decimal offset) (40 ∷ 120 ∷ (decimal base.number ++ (41 ∷ []))) (signed_clean offset small)
    ∙ clean_append (decimal base.number) (41 ∷ []) (decimal_clean base.number (omega arith)))

operands_clean : (i : Instr) → clean (operands_of i) ≡ true
operands_clean (instructions.Lui rd imm) = one_clean rd (decimal imm.value) (decimal_clean imm.value (omega arith))
operands_clean (instructions.Auipc rd imm) = one_clean rd (decimal imm.value) (decimal_clean imm.value (omega arith))
operands_clean (instructions.Jal rd offset) =
    one_clean rd (signed_decimal offset.bytes)
    (signed_clean offset.bytes (small_between offset.bytes 1048575 1048574 (omega arith) (omega arith) offset.lowest offset.highest))
operands_clean (instructions.Jalr rd rs1 offset) =
    based_clean rd offset.value rs1 (small_between offset.value 2047 2047 (omega arith) (omega arith) offset.lowest offset.highest)
operands_clean (instructions.Branch condition rs1 rs2 offset) =
    two_clean rs1 rs2 (signed_decimal offset.bytes)
    (signed_clean offset.bytes (small_between offset.bytes 4095 4094 (omega arith) (omega arith) offset.lowest offset.highest))
operands_clean (instructions.Load op rd rs1 offset) =
    based_clean rd offset.value rs1 (small_between offset.value 2047 2047 (omega arith) (omega arith) offset.lowest offset.highest)
operands_clean (instructions.Store op rs1 rs2 offset) =
    based_clean rs2 offset.value rs1 (small_between offset.value 2047 2047 (omega arith) (omega arith) offset.lowest offset.highest)
operands_clean (instructions.RegisterImmediate op rd rs1 imm) =
    two_clean rd rs1 (signed_decimal imm.value)
    (signed_clean imm.value (small_between imm.value 2047 2047 (omega arith) (omega arith) imm.lowest imm.highest))
operands_clean (instructions.Shift op rd rs1 count) = two_clean rd rs1 (decimal count.count) (decimal_clean count.count (omega arith))
operands_clean (instructions.Addiw rd rs1 imm) =
    two_clean rd rs1 (signed_decimal imm.value)
    (signed_clean imm.value (small_between imm.value 2047 2047 (omega arith) (omega arith) imm.lowest imm.highest))
operands_clean (instructions.ShiftWord op rd rs1 count) = two_clean rd rs1 (decimal count.count) (decimal_clean count.count (omega arith))
operands_clean (instructions.RegisterRegister op rd rs1 rs2) = two_clean rd rs1 (register_text rs2) (decimal_clean rs2.number (omega arith))
operands_clean (instructions.RegisterRegisterWord op rd rs1 rs2) = two_clean rd rs1 (register_text rs2) (decimal_clean rs2.number (omega arith))
operands_clean (instructions.Fence rd rs1 fields) =
    two_clean rd rs1 (signed_decimal (fence_value fields)) (signed_clean (fence_value fields) (fence_small fields))
operands_clean instructions.Ecall = refl
operands_clean instructions.Ebreak = refl

instr_clean : (i : Instr) → clean (instr_text i) ≡ true
instr_clean i =
    clean_append (name_of i) (operands_of i) (ap clean (name_of_operation i) ∙ name_clean (operation_of i)) ∙ operands_clean i

digit_clean : (d : ℕ) (rest : List ℕ) → clean rest ≡ true → clean (hex_digit d ∷ rest) ≡ true
digit_clean d rest h =
    clean_more (hex_digit d) rest
    (cond_both (nat_lt d 10) (48 + d) (87 + d) (λ (n : ℕ). n ≡ 10 → ⊥) (λ _ (e : 48 + d ≡ 10). absurd (omega (arith, e))) (λ _ (e : 87 + d ≡ 10). absurd (omega (arith, e))))
    h

hex_clean : (w : ℕ) → clean (hex8 w) ≡ true
unfolding hex8
hex_clean w =
    let r1 : List ℕ = hex_digit (w % 16) ∷ [] in
    let r2 : List ℕ = hex_digit (w / 2 ^ 4 % 16) ∷ r1 in
    let r3 : List ℕ = hex_digit (w / 2 ^ 8 % 16) ∷ r2 in
    let r4 : List ℕ = hex_digit (w / 2 ^ 12 % 16) ∷ r3 in
    let r5 : List ℕ = hex_digit (w / 2 ^ 16 % 16) ∷ r4 in
    let r6 : List ℕ = hex_digit (w / 2 ^ 20 % 16) ∷ r5 in
    let r7 : List ℕ = hex_digit (w / 2 ^ 24 % 16) ∷ r6 in
    digit_clean (w / 2 ^ 28 % 16) r7 (digit_clean (w / 2 ^ 24 % 16) r6 (digit_clean (w / 2 ^ 20 % 16) r5 (digit_clean (w / 2 ^ 16 % 16) r4
    (digit_clean (w / 2 ^ 12 % 16) r3 (digit_clean (w / 2 ^ 8 % 16) r2 (digit_clean (w / 2 ^ 4 % 16) r1 (digit_clean (w % 16) [] refl)))))))

text_clean : (w : ℕ) (found : Option Instr) → clean (text_in w found) ≡ true
text_clean w (Some i) = instr_clean i
text_clean w None = hex_clean w

-- the lines of a source of texts
pub source_lines : (ws : List ℕ) (source : List ℕ) → AreSource ws source → AreTexts ws (lines_of source)
source_lines [] source is = subst (λ (s : List ℕ). AreTexts [] (lines_of s)) (sym is) tt
source_lines (w ∷ ws) source is =
    let text : List ℕ = is.0 in
    let rest : List ℕ = is.1 in
    let free : clean text ≡ true = ap clean is.3.2 ∙ text_clean w is.3.0 in
    let lines : lines_of source ≡ text ∷ lines_of rest = ap lines_of is.5 ∙ line_ends text rest free in
    subst (AreTexts (w ∷ ws)) (sym lines) (is.2, is.3, source_lines ws rest is.4)

not_empty : (line rest : List ℕ) → line ++ 10 ∷ rest ≡ [] → ⊥
not_empty [] rest e = cc
not_empty (b ∷ bs) rest e = cc

source_some : (ws : List ℕ) (source : List ℕ) → ws ≢ [] → AreSource ws source → source ≢ []
source_some [] source some is = absurd (some refl)
source_some (w ∷ ws) source some is = λ (e : source ≡ []). not_empty is.0 is.1 (sym is.5 ∙ e)

pub texts_assemble : TextsAssemble
texts_assemble words source some is = (source_some words source some is, source_lines words source is)
