-- A text has one word, a source one answer, and an image one listing.
use Rattle.std.proofs.Common.{◌≡◌, ◌∙◌, ℕ, ◌+◌, ◌-◌, ◌<◌, ◌^◌, ℤ, pos, negsuc, suc, true, false, cond, List, [], ◌∷◌, ◌++◌, length, drop, Option, Some, None, refl, sym, ap, subst, arith}
use Rattle.std.specs.Prelude.{nat_lt}
use Rattle.std.proofs.lemmas.Bool.{false≢true}
use Rattle.std.proofs.Math.Seq.{drop-append_seam}
use Rattle.tl_base.specs.declared.limits.TheConstants.{TEXT_ADDRESS}
use Rattle.rv_isa.specs.Finds.{Finds}
use Rattle.rv_isa.specs.Formats.{twos_complement}
use Rattle.rv_isa.specs.Table.{word_of}
use Rattle.rv_isa.specs.declared.operand.Register.{Register}
use Rattle.rv_isa.specs.declared.operand.Immediate.{Immediate}
use Rattle.rv_isa.specs.declared.operand.UpperImmediate.{UpperImmediate}
use Rattle.rv_isa.specs.declared.operand.BranchOffset.{BranchOffset}
use Rattle.rv_isa.specs.declared.operand.JumpOffset.{JumpOffset}
use Rattle.rv_isa.specs.declared.operand.ShiftCount.{ShiftCount}
use Rattle.rv_isa.specs.declared.operand.WordShiftCount.{WordShiftCount}
use Rattle.rv_isa.specs.declared.operand.FenceFields.{FenceFields}
use Rattle.rv_isa.specs.declared.instr.Instr.{Instr}
use Rattle.rv_isa.specs.declared.instr.Instr.TheVariants as instructions
use Rattle.rv_isa.proofs.Operands.{register_same, immediate_same, upper_immediate_same, branch_offset_same, jump_offset_same}
use Rattle.rv_isa.proofs.Operands.{shift_count_same, word_shift_count_same, fence_fields_same}
use Rattle.rv_listing.specs.declared.names.Operation.TheVariants as operations
use Rattle.rv_listing.specs.declared.scan.Number.{Number}
use Rattle.rv_listing.specs.declared.scan.Scan.{Scan}
use Rattle.rv_listing.specs.declared.reading.AsmError.{AsmError}
use Rattle.rv_listing.specs.declared.reading.AsmError.TheVariants as errors
use Rattle.rv_listing.specs.declared.assembly.AsmKind.{AsmKind}
use Rattle.rv_listing.specs.declared.assembly.AsmKind.TheVariants as kinds
use Rattle.rv_listing.specs.Texts.{name_of, operands_of, instr_text, fence_value, hex8, text_in, IsWordText}
use Rattle.rv_listing.specs.Assembly.{name_in, IsText, IsBad, AreTexts, lines_of, IsFirstBad, IsRefused, Assembles, OneAnswer}
use Rattle.rv_listing.specs.Listing.{AreWordLines, word_line, entry_lines, OneListing}
use Rattle.rv_listing.specs.Reading.{operation_of, operation_named, number_of, register_number, scan_all, scan_start, hex_all, Fills}
use Rattle.rv_listing.proofs.Filling as filling
use Rattle.rv_listing.proofs.Operations.{named_again, name_of_operation, name_in_text}
use Rattle.rv_listing.proofs.Scanning.{fills_again}
use Rattle.rv_listing.proofs.Hexadecimal.{digits_back}
use Rattle.rv_listing.proofs.Words.{one_text, text_named, word_unnamed}

-- ---- numbers tell operands apart

number_one : (y z : ℤ) → number_of y ≡ number_of z → y ≡ z
number_one (pos m) (pos n) e = ap pos (ap (λ (k : Number). k.size) e)
number_one (pos m) (negsuc n) e = absurd (false≢true (ap (λ (k : Number). k.negative) e))
number_one (negsuc m) (pos n) e = absurd (false≢true (sym (ap (λ (k : Number). k.negative) e)))
number_one (negsuc m) (negsuc n) e =
    let sizes : suc m ≡ suc n = ap (λ (k : Number). k.size) e in
    let same : m ≡ n = omega arith in
    ap negsuc same

value_one : (m n : ℕ) → m < 4096 → n < 4096
    → cond (nat_lt m 2048) (pos m) (negsuc (4095 - m)) ≡ cond (nat_lt n 2048) (pos n) (negsuc (4095 - n)) → m ≡ n
value_one m n ml nl =
    elim (nat_lt m 2048) as (λ u. cond u (pos m) (negsuc (4095 - m)) ≡ cond (nat_lt n 2048) (pos n) (negsuc (4095 - n)) → m ≡ n) [
      | true ↦ elim (nat_lt n 2048) as (λ v. pos m ≡ cond v (pos n) (negsuc (4095 - n)) → m ≡ n) [
        | true ↦ λ (e : pos m ≡ pos n). (cc)
        | false ↦ λ (e : pos m ≡ negsuc (4095 - n)). (cc)
      ]
      | false ↦ elim (nat_lt n 2048) as (λ v. negsuc (4095 - m) ≡ cond v (pos n) (negsuc (4095 - n)) → m ≡ n) [
        | true ↦ λ (e : negsuc (4095 - m) ≡ pos n). (cc)
        | false ↦ λ (e : negsuc (4095 - m) ≡ negsuc (4095 - n)). (let same : 4095 - m ≡ 4095 - n = cc in omega arith)
      ]
    ]

register_one : (n : Number) (a b : Register) → n ≡ register_number a → n.size ≡ b.number → a ≡ b
register_one n a b e f = register_same a b (sym (ap (λ (k : Number). k.size) e) ∙ f)

upper_one : (n : Number) (a b : UpperImmediate) → n ≡ number_of (pos a.value) → n.size ≡ b.value → a ≡ b
upper_one n a b e f = upper_immediate_same a b (sym (ap (λ (k : Number). k.size) e) ∙ f)

count_one : (n : Number) (a b : ShiftCount) → n ≡ number_of (pos a.count) → n.size ≡ b.count → a ≡ b
count_one n a b e f = shift_count_same a b (sym (ap (λ (k : Number). k.size) e) ∙ f)

word_count_one : (n : Number) (a b : WordShiftCount) → n ≡ number_of (pos a.count) → n.size ≡ b.count → a ≡ b
word_count_one n a b e f = word_shift_count_same a b (sym (ap (λ (k : Number). k.size) e) ∙ f)

immediate_one : (n : Number) (a b : Immediate) → n ≡ number_of a.value → n ≡ number_of b.value → a ≡ b
immediate_one n a b e f = immediate_same a b (ap (twos_complement 12) (number_one a.value b.value (sym e ∙ f)))

branch_one : (n : Number) (a b : BranchOffset) → n ≡ number_of a.bytes → n ≡ number_of b.bytes → a ≡ b
branch_one n a b e f = branch_offset_same a b (ap (twos_complement 13) (number_one a.bytes b.bytes (sym e ∙ f)))

jump_one : (n : Number) (a b : JumpOffset) → n ≡ number_of a.bytes → n ≡ number_of b.bytes → a ≡ b
jump_one n a b e f = jump_offset_same a b (ap (twos_complement 21) (number_one a.bytes b.bytes (sym e ∙ f)))

fence_one : (n : Number) (a b : FenceFields) → n ≡ number_of (fence_value a) → n ≡ number_of (fence_value b) → a ≡ b
fence_one n a b e f =
    fence_fields_same a b (value_one a.bits b.bits (omega arith) (omega arith) (number_one (fence_value a) (fence_value b) (sym e ∙ f)))

is_ecall : (i : Instr) → operation_of i ≡ operations.Ecall → instructions.Ecall ≡ i
is_ecall instructions.Ecall e = refl
is_ecall _ e = absurd cc

is_ebreak : (i : Instr) → operation_of i ≡ operations.Ebreak → instructions.Ebreak ≡ i
is_ebreak instructions.Ebreak e = refl
is_ebreak _ e = absurd cc

-- two instructions of one operation with the same numbers are the same
fills_one : (s : Scan) (i j : Instr) → operation_of i ≡ operation_of j → Fills i s → Fills j s → i ≡ j
fills_one s (instructions.Lui rd imm) j same f g =
    filling.lui s rd imm j (λ (a : Register). register_one s.second rd a f.0) (λ (a : UpperImmediate). upper_one s.third imm a f.1) (sym same) g
fills_one s (instructions.Auipc rd imm) j same f g =
    filling.auipc s rd imm j (λ (a : Register). register_one s.second rd a f.0) (λ (a : UpperImmediate). upper_one s.third imm a f.1) (sym same) g
fills_one s (instructions.Jal rd offset) j same f g =
    filling.jal s rd offset j (λ (a : Register). register_one s.second rd a f.0) (λ (a : JumpOffset). jump_one s.third offset a f.1) (sym same) g
fills_one s (instructions.Jalr rd rs1 offset) j same f g =
    filling.jalr s rd rs1 offset j (λ (a : Register). register_one s.first rd a f.0) (λ (a : Register). register_one s.third rs1 a f.2)
    (λ (a : Immediate). immediate_one s.second offset a f.1) (sym same) g
fills_one s (instructions.Branch op rs1 rs2 offset) j same f g =
    filling.branch s op rs1 rs2 offset j (λ (a : Register). register_one s.first rs1 a f.0) (λ (a : Register). register_one s.second rs2 a f.1)
    (λ (a : BranchOffset). branch_one s.third offset a f.2) (sym same) g
fills_one s (instructions.Load op rd rs1 offset) j same f g =
    filling.load s op rd rs1 offset j (λ (a : Register). register_one s.first rd a f.0) (λ (a : Register). register_one s.third rs1 a f.2)
    (λ (a : Immediate). immediate_one s.second offset a f.1) (sym same) g
fills_one s (instructions.Store op rs1 rs2 offset) j same f g =
    filling.store s op rs1 rs2 offset j (λ (a : Register). register_one s.third rs1 a f.2) (λ (a : Register). register_one s.first rs2 a f.0)
    (λ (a : Immediate). immediate_one s.second offset a f.1) (sym same) g
fills_one s (instructions.RegisterImmediate op rd rs1 imm) j same f g =
    filling.register_immediate s op rd rs1 imm j (λ (a : Register). register_one s.first rd a f.0) (λ (a : Register). register_one s.second rs1 a f.1)
    (λ (a : Immediate). immediate_one s.third imm a f.2) (sym same) g
fills_one s (instructions.Shift op rd rs1 count) j same f g =
    filling.shift s op rd rs1 count j (λ (a : Register). register_one s.first rd a f.0) (λ (a : Register). register_one s.second rs1 a f.1)
    (λ (a : ShiftCount). count_one s.third count a f.2) (sym same) g
fills_one s (instructions.Addiw rd rs1 imm) j same f g =
    filling.addiw s rd rs1 imm j (λ (a : Register). register_one s.first rd a f.0) (λ (a : Register). register_one s.second rs1 a f.1)
    (λ (a : Immediate). immediate_one s.third imm a f.2) (sym same) g
fills_one s (instructions.ShiftWord op rd rs1 count) j same f g =
    filling.shift_word s op rd rs1 count j (λ (a : Register). register_one s.first rd a f.0) (λ (a : Register). register_one s.second rs1 a f.1)
    (λ (a : WordShiftCount). word_count_one s.third count a f.2) (sym same) g
fills_one s (instructions.RegisterRegister op rd rs1 rs2) j same f g =
    filling.register_register s op rd rs1 rs2 j (λ (a : Register). register_one s.first rd a f.0) (λ (a : Register). register_one s.second rs1 a f.1)
    (λ (a : Register). register_one s.third rs2 a f.2) (sym same) g
fills_one s (instructions.RegisterRegisterWord op rd rs1 rs2) j same f g =
    filling.register_register_word s op rd rs1 rs2 j (λ (a : Register). register_one s.first rd a f.0) (λ (a : Register). register_one s.second rs1 a f.1)
    (λ (a : Register). register_one s.third rs2 a f.2) (sym same) g
fills_one s (instructions.Fence rd rs1 fields) j same f g =
    filling.fence s rd rs1 fields j (λ (a : Register). register_one s.first rd a f.0) (λ (a : Register). register_one s.second rs1 a f.1)
    (λ (a : FenceFields). fence_one s.third fields a f.2) (sym same) g
fills_one s instructions.Ecall j same f g = is_ecall j (sym same)
fills_one s instructions.Ebreak j same f g = is_ebreak j (sym same)

-- ---- a text has one word

one_instr : (i j : Instr) → instr_text i ≡ instr_text j → i ≡ j
one_instr i j e =
    let names : name_of i ≡ name_of j = sym (name_in_text i) ∙ (ap name_in e ∙ name_in_text j) in
    let found_i : operation_named (name_of i) ≡ Some (operation_of i) = ap operation_named (name_of_operation i) ∙ named_again (operation_of i) in
    let found_j : operation_named (name_of j) ≡ Some (operation_of j) = ap operation_named (name_of_operation j) ∙ named_again (operation_of j) in
    let operation : operation_of i ≡ operation_of j = cc (ap operation_named names, found_i, found_j) in
    let operands : operands_of i ≡ operands_of j =
    sym (drop-append_seam (name_of i) (operands_of i)) ∙ (ap (drop (length (name_of i))) e
    ∙ (ap (λ (n : List ℕ). drop (length n) (instr_text j)) names ∙ drop-append_seam (name_of j) (operands_of j))) in
    let fills : Fills j (scan_all scan_start (operands_of i)) =
    subst (λ (l : List ℕ). Fills j (scan_all scan_start l)) (sym operands) (fills_again j) in
    fills_one (scan_all scan_start (operands_of i)) i j operation (fills_again i) fills

one_of_found : (w v : ℕ) (f g : Option Instr) → w < 2 ^ 32 → v < 2 ^ 32 → Finds word_of w f → Finds word_of v g → text_in w f ≡ text_in v g → w ≡ v
one_of_found w v (Some i) (Some j) wl vl a b e = sym a ∙ (ap word_of (one_instr i j e) ∙ b)
one_of_found w v (Some i) None wl vl a b e = absurd (word_unnamed i (sym (name_in_text i) ∙ ap name_in e))
one_of_found w v None (Some j) wl vl a b e = absurd (word_unnamed j (sym (name_in_text j) ∙ ap name_in (sym e)))
one_of_found w v None None wl vl a b e =
    let digits : hex8 w ≡ hex8 v = ap (λ (l : List ℕ). drop 7 l) e in
    sym (digits_back w wl) ∙ (ap (hex_all 0) digits ∙ digits_back v vl)

one_word : (w v : ℕ) (line : List ℕ) → w < 2 ^ 32 → v < 2 ^ 32 → IsWordText w line → IsWordText v line → w ≡ v
one_word w v line wl vl a b = one_of_found w v a.0 b.0 wl vl a.1 b.1 (sym a.2 ∙ b.2)

one_words : (ws vs : List ℕ) (lines : List (List ℕ)) → AreTexts ws lines → AreTexts vs lines → ws ≡ vs
one_words [] [] [] a b = refl
one_words [] (v ∷ vs) [] a b = absurd b
one_words (w ∷ ws) vs [] a b = absurd a
one_words [] vs (l ∷ ls) a b = absurd a
one_words (w ∷ ws) [] (l ∷ ls) a b = absurd b
one_words (w ∷ ws) (v ∷ vs) (l ∷ ls) a b = cc (one_word w v l a.0 b.0 a.1 b.1, one_words ws vs ls a.2 b.2)

-- ---- a source has one answer

bad_has_none : (e : AsmError) (line : List ℕ) → IsBad e line → IsText line → ⊥
bad_has_none errors.BadName line bad t = bad (text_named t.0 line t.2)
bad_has_none errors.BadOperands line bad t = bad.1 t

one_cause : (e d : AsmError) (line : List ℕ) → IsBad e line → IsBad d line → e ≡ d
one_cause errors.BadName errors.BadName line a b = refl
one_cause errors.BadName errors.BadOperands line a b = absurd (a b.0)
one_cause errors.BadOperands errors.BadName line a b = absurd (b a.0)
one_cause errors.BadOperands errors.BadOperands line a b = refl

text_in_good : (ws : List ℕ) (line : List ℕ) (lines : List (List ℕ)) → AreTexts ws (line ∷ lines) → IsText line
text_in_good [] line lines a = absurd a
text_in_good (w ∷ ws) line lines a = (w, a.0, a.1)

rest_good : (ws : List ℕ) (line : List ℕ) (lines : List (List ℕ)) → AreTexts ws (line ∷ lines) → (vs : List ℕ) × AreTexts vs lines
rest_good [] line lines a = absurd a
rest_good (w ∷ ws) line lines a = (ws, a.2)

same_first : (e d : AsmError) (b1 b2 r1 r2 : List (List ℕ)) (x y : List ℕ) (ws vs : List ℕ) → b1 ++ x ∷ r1 ≡ b2 ++ y ∷ r2
    → AreTexts ws b1 → AreTexts vs b2 → IsBad e x → IsBad d y → (e ≡ d) × (length b1 ≡ length b2)
same_first e d [] [] r1 r2 x y ws vs same a b bx by =
    let one : x ≡ y = cc in
    (one_cause e d y (subst (IsBad e) one bx) by, refl)
same_first e d [] (k ∷ b2) r1 r2 x y ws vs same a b bx by =
    let one : x ≡ k = cc in
    absurd (bad_has_none e k (subst (IsBad e) one bx) (text_in_good vs k b2 b))
same_first e d (l ∷ b1) [] r1 r2 x y ws vs same a b bx by =
    let one : l ≡ y = cc in
    absurd (bad_has_none d l (subst (IsBad d) (sym one) by) (text_in_good ws l b1 a))
same_first e d (l ∷ b1) (k ∷ b2) r1 r2 x y ws vs same a b bx by =
    let rest : b1 ++ x ∷ r1 ≡ b2 ++ y ∷ r2 = cc in
    let ga = rest_good ws l b1 a in
    let gb = rest_good vs k b2 b in
    let got = same_first e d b1 b2 r1 r2 x y ga.0 gb.0 rest ga.1 gb.1 bx by in
    (got.0, omega (arith, got.1))

one_bad : (lines : List (List ℕ)) (e d : AsmError) (m n : ℕ) → IsFirstBad lines e m → IsFirstBad lines d n → (e ≡ d) × (m ≡ n)
one_bad lines e d m n p q =
    let got = same_first e d p.before q.before p.behind q.behind p.bad q.bad p.words q.words (sym p.parts ∙ q.parts) p.good q.good p.cause q.cause in
    (got.0, omega (arith, got.1, p.counted, q.counted))

bad_among : (ws : List ℕ) (before behind : List (List ℕ)) (line : List ℕ) → AreTexts ws (before ++ line ∷ behind) → IsText line
bad_among ws [] behind line a = text_in_good ws line behind a
bad_among ws (l ∷ before) behind line a =
    let rest = rest_good ws l (before ++ line ∷ behind) a in
    bad_among rest.0 before behind line rest.1

good_or_bad : (lines : List (List ℕ)) (ws : List ℕ) (e : AsmError) (n : ℕ) → AreTexts ws lines → IsFirstBad lines e n → ⊥
good_or_bad lines ws e n a p =
    bad_has_none e p.bad p.cause (bad_among ws p.before p.behind p.bad (subst (AreTexts ws) p.parts a))

nothing_first : (e : AsmError) (n : ℕ) (text : List ℕ) → text ≡ [] → IsFirstBad (lines_of text) e n → ⊥
nothing_first e n text none p = good_or_bad [] [] e n tt (subst (λ (t : List ℕ). IsFirstBad (lines_of t) e n) none p)

names_apart : errors.BadName ≡ errors.BadOperands → ⊥
names_apart e = cc

one_fault : (text : List ℕ) (kind other : AsmKind) (m n : ℕ) → IsRefused text kind m → IsRefused text other n → (kind ≡ other) × (m ≡ n)
one_fault text kinds.Empty kinds.Empty m n a b = (refl, a.1 ∙ sym b.1)
one_fault text kinds.Empty kinds.BadName m n a b = absurd (nothing_first errors.BadName n text a.0 b)
one_fault text kinds.Empty kinds.BadOperands m n a b = absurd (nothing_first errors.BadOperands n text a.0 b)
one_fault text kinds.BadName kinds.Empty m n a b = absurd (nothing_first errors.BadName m text b.0 a)
one_fault text kinds.BadName kinds.BadName m n a b = (refl, (one_bad (lines_of text) errors.BadName errors.BadName m n a b).1)
one_fault text kinds.BadName kinds.BadOperands m n a b =
    let got = one_bad (lines_of text) errors.BadName errors.BadOperands m n a b in
    absurd (names_apart got.0)
one_fault text kinds.BadOperands kinds.Empty m n a b = absurd (nothing_first errors.BadOperands m text b.0 a)
one_fault text kinds.BadOperands kinds.BadName m n a b =
    let got = one_bad (lines_of text) errors.BadOperands errors.BadName m n a b in
    absurd (names_apart (sym got.0))
one_fault text kinds.BadOperands kinds.BadOperands m n a b = (refl, (one_bad (lines_of text) errors.BadOperands errors.BadOperands m n a b).1)

taken_or_refused : (text words : List ℕ) (kind : AsmKind) (n : ℕ) → Assembles text words → IsRefused text kind n → ⊥
taken_or_refused text words kinds.Empty n a b = a.0 b.0
taken_or_refused text words kinds.BadName n a b = good_or_bad (lines_of text) words errors.BadName n a.1 b
taken_or_refused text words kinds.BadOperands n a b = good_or_bad (lines_of text) words errors.BadOperands n a.1 b

pub one_answer : (text : List ℕ) → OneAnswer text
one_answer text = record {
  words = λ (a b : List ℕ) (p : Assembles text a) (q : Assembles text b). one_words a b (lines_of text) p.1 q.1;
  refused = one_fault text;
  apart = taken_or_refused text;
}

-- ---- an image has one listing

one_lines : (at : ℕ) (ws : List ℕ) (a b : List ℕ) → AreWordLines at ws a → AreWordLines at ws b → a ≡ b
one_lines at [] a b p q = p ∙ sym q
one_lines at (w ∷ ws) a b p q =
    let texts : p.0 ≡ q.0 = one_text w p.0 q.0 p.2 q.2 in
    let rests : p.1 ≡ q.1 = one_lines (at + 4) ws p.1 q.1 p.3 q.3 in
    p.4 ∙ (ap (λ (t : List ℕ). word_line at w t ++ p.1) texts ∙ (ap (λ (r : List ℕ). word_line at w q.0 ++ r) rests ∙ sym q.4))

pub one_listing : OneListing
one_listing image a b p q =
    p.2 ∙ (ap (λ (l : List ℕ). entry_lines image.exports ++ l) (one_lines TEXT_ADDRESS image.text p.0 q.0 p.1 q.1) ∙ sym q.2)
