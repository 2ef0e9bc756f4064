-- The numbers of an operand's text are the operands.
use Rattle.std.proofs.Common.{◌≡◌, ◌∙◌, ℕ, ◌+◌, ◌-◌, ◌*◌, ◌<◌, ◌≤◌, ℤ, pos, negsuc, suc, true, false, nat_lt, List, [], ◌∷◌, ◌++◌, length, refl, sym, ap, arith}
use Rattle.std.specs.Prelude.{decimal}
use Rattle.std.specs.Fmt.{signed_decimal}
use Rattle.std.specs.Char.{digit_value, is_ascii_digit}
use Rattle.std.specs.Int.{IsInRange}
use Rattle.std.specs.Str.Parse.{AllDigits, digits_value, digits_value_after}
use Rattle.std.proofs.lemmas.Fmt.{decimal_is_IsNumeral}
use Rattle.std.proofs.lemmas.Str.{digit_value_digit}
use Rattle.std.proofs.lemmas.Str.Parse.{digit_from_value}
use Rattle.rv_listing.specs.declared.scan.Number.{Number}
use Rattle.rv_listing.specs.declared.scan.Scan.{Scan}
use Rattle.std.proofs.Common.{Bool, ◌≤ℤ◌, subst}
use Rattle.std.specs.Prelude.{if◌then◌else◌}
use Rattle.std.proofs.lemmas.Int.{ints}
use Rattle.rv_isa.specs.declared.operand.Register.{Register}
use Rattle.rv_isa.specs.declared.operand.FenceFields.{FenceFields}
use Rattle.rv_isa.specs.declared.instr.Instr.{Instr}
use Rattle.rv_isa.specs.declared.instr.Instr.TheVariants as instructions
use Rattle.rv_listing.specs.Texts.{one_register, two_registers, based, operands_of, register_text, fence_value}
use Rattle.rv_listing.specs.Reading.{number_of, scan_byte, scan_all, scan_start, zero_number, register_number, Fills}

pub scan_append : (s : Scan) (before behind : List ℕ) → scan_all s (before ++ behind) ≡ scan_all (scan_all s before) behind
scan_append s [] behind = refl
scan_append s (b ∷ before) behind = scan_append (scan_byte s b) before behind

-- in a number, of which so much is read
pub within : Scan → ℕ → Scan
within s n = record { first = s.second; second = s.third; third = record { negative = s.minus; size = n }; inside = true; minus = s.minus }

value_grows : (n : ℕ) (ds : List ℕ) → n ≤ digits_value_after 10 n ds
value_grows n [] = omega arith
value_grows n (d ∷ ds) = omega (arith, value_grows (n * 10 + digit_value d) ds)

digit_step : (s : Scan) (n d : ℕ) → IsInRange 48 57 d → n < 1000000000 → scan_byte (within s n) d ≡ within s (n * 10 + (d - 48))
unfolding within
digit_step s n d h small =
    let digit : is_ascii_digit d ≡ true = grind arith in
    let short : nat_lt n 1000000000 ≡ true = grind arith in
    simp (digit, short)

digits_scan : (s : Scan) (n : ℕ) (ds : List ℕ) → AllDigits 10 ds → digits_value_after 10 n ds < 1000000000
    → scan_all (within s n) ds ≡ within s (digits_value_after 10 n ds)
digits_scan s n [] all small = refl
digits_scan s n (d ∷ ds) all small =
    let h = digit_from_value d all.0 in
    let value : n * 10 + (d - 48) ≡ n * 10 + digit_value d = omega (arith, digit_value_digit d h) in
    let now : n < 1000000000 = omega (arith, value_grows (n * 10 + digit_value d) ds) in
    ap (λ (t : Scan). scan_all t ds) (digit_step s n d h now ∙ ap (within s) value) ∙ digits_scan s (n * 10 + digit_value d) ds all.1 small

first_step : (s : Scan) (d : ℕ) → IsInRange 48 57 d → s.inside ≡ false → scan_byte s d ≡ within s (d - 48)
unfolding within
first_step s d h out =
    let digit : is_ascii_digit d ≡ true = grind arith in
    simp (digit, out)

first_scan : (s : Scan) (ds : List ℕ) (n : ℕ) → 0 < length ds → AllDigits 10 ds → digits_value 10 ds ≡ n → n < 1000000000 → s.inside ≡ false
    → scan_all s ds ≡ within s n
first_scan s [] n some all value small out = absurd (omega arith)
first_scan s (d ∷ ds) n some all value small out =
    let h = digit_from_value d all.0 in
    let first : d - 48 ≡ 0 * 10 + digit_value d = omega (arith, digit_value_digit d h) in
    let below : digits_value_after 10 (0 * 10 + digit_value d) ds < 1000000000 = omega (arith, value) in
    ap (λ (t : Scan). scan_all t ds) (first_step s d h out ∙ ap (within s) first)
    ∙ (digits_scan s (0 * 10 + digit_value d) ds all.1 below ∙ ap (within s) value)

-- a number behind what is no digit
pub number_scan : (s : Scan) (n : ℕ) → n < 1000000000 → s.inside ≡ false → scan_all s (decimal n) ≡ within s n
number_scan s n small out =
    let h = decimal_is_IsNumeral n (omega arith) in
    first_scan s (decimal n) n h.0.0 h.0.1 h.1 small out

-- a reading by its parts
abbrev pub state : Number → Number → Number → Bool → Bool → Scan
state a b c inside minus = record { first = a; second = b; third = c; inside = inside; minus = minus }

abbrev pub plain : ℕ → Number
plain n = record { negative = false; size = n }

-- a number, and what stands behind it
number_then : (a b c : Number) (m : Bool) (n : ℕ) (rest : List ℕ) → n < 1000000000
    → scan_all (state a b c false m) (decimal n ++ rest) ≡ scan_all (state b c (record { negative = m; size = n }) true m) rest
unfolding within
number_then a b c m n rest small =
    scan_append (state a b c false m) (decimal n) rest
    ∙ ap (λ (t : Scan). scan_all t rest) (number_scan (state a b c false m) n small refl)

number_end : (a b c : Number) (m : Bool) (n : ℕ) → n < 1000000000
    → scan_all (state a b c false m) (decimal n) ≡ state b c (record { negative = m; size = n }) true m
unfolding within
number_end a b c m n small = number_scan (state a b c false m) n small refl

abbrev pub IsSmall : ℤ → Type 0
IsSmall (pos n) = n < 1000000000
IsSmall (negsuc n) = suc n < 1000000000

abbrev is_minus : ℤ → Bool
is_minus (pos n) = false
is_minus (negsuc n) = true

pub small_between : (z : ℤ) (m n : ℕ) → m < 99999999 → n < 99999999 → negsuc m ≤ℤ z → z ≤ℤ pos n → IsSmall z
small_between (pos k) m n low high at_least at_most = omega (arith, ints)
small_between (negsuc k) m n low high at_least at_most = omega (arith, ints)

signed_then : (a b c : Number) (z : ℤ) (rest : List ℕ) → IsSmall z
    → scan_all (state a b c false false) (signed_decimal z ++ rest) ≡ scan_all (state b c (number_of z) true (is_minus z)) rest
signed_then a b c (pos n) rest small = number_then a b c false n rest small
signed_then a b c (negsuc n) rest small = number_then a b c true (suc n) rest small

signed_end : (a b c : Number) (z : ℤ) → IsSmall z
    → scan_all (state a b c false false) (signed_decimal z) ≡ state b c (number_of z) true (is_minus z)
signed_end a b c (pos n) small = number_end a b c false n small
signed_end a b c (negsuc n) small = number_end a b c true (suc n) small

pub fence_small : (fields : FenceFields) → IsSmall (fence_value fields)
fence_small fields = elim (nat_lt fields.bits 2048) as (λ (v : Bool). IsSmall (if v then pos fields.bits else negsuc (4095 - fields.bits))) [
  | true ↦ omega arith
  | false ↦ omega arith
]

-- a register, and what stands behind the comma
one_then : (a : Register) (number : List ℕ)
    → scan_all scan_start (one_register a number) ≡ scan_all (state zero_number zero_number (register_number a) false false) number
one_then a number = number_then zero_number zero_number zero_number false a.number (44 ∷ 32 ∷ number) (omega arith)

-- two registers, and what stands behind them
two_then : (a b : Register) (last : List ℕ)
    → scan_all scan_start (two_registers a b last) ≡ scan_all (state zero_number (register_number a) (register_number b) false false) last
two_then a b last =
    number_then zero_number zero_number zero_number false a.number (44 ∷ 32 ∷ 120 ∷ (decimal b.number ++ (44 ∷ 32 ∷ last))) (omega arith)
    ∙ number_then zero_number zero_number (register_number a) false b.number (44 ∷ 32 ∷ last) (omega arith)

based_scan : (a : Register) (offset : ℤ) (base : Register) → IsSmall offset
    → scan_all scan_start (based a offset base) ≡ state (register_number a) (number_of offset) (register_number base) false false
based_scan a offset base small =
    number_then zero_number zero_number zero_number false a.number (44 ∷ 32 ∷ (signed_decimal offset ++ (40 ∷ 120 ∷ (decimal base.number ++ (41 ∷ []))))) (omega arith)
    ∙ (signed_then zero_number zero_number (register_number a) offset (40 ∷ 120 ∷ (decimal base.number ++ (41 ∷ []))) small
    ∙ number_then zero_number (register_number a) (number_of offset) false base.number (41 ∷ []) (omega arith))

signed_scan : (a b : Register) (z : ℤ) → IsSmall z
    → scan_all scan_start (two_registers a b (signed_decimal z)) ≡ state (register_number a) (register_number b) (number_of z) true (is_minus z)
signed_scan a b z small = two_then a b (signed_decimal z) ∙ signed_end zero_number (register_number a) (register_number b) z small

counted_scan : (a b : Register) (n : ℕ) → n < 1000000000
    → scan_all scan_start (two_registers a b (decimal n)) ≡ state (register_number a) (register_number b) (plain n) true false
counted_scan a b n small = two_then a b (decimal n) ∙ number_end zero_number (register_number a) (register_number b) false n small

registers_scan : (a b c : Register)
    → scan_all scan_start (two_registers a b (register_text c)) ≡ state (register_number a) (register_number b) (register_number c) true false
registers_scan a b c = two_then a b (register_text c) ∙ number_end zero_number (register_number a) (register_number b) false c.number (omega arith)

upper_scan : (a : Register) (n : ℕ) → n < 1000000000
    → scan_all scan_start (one_register a (decimal n)) ≡ state zero_number (register_number a) (plain n) true false
upper_scan a n small = one_then a (decimal n) ∙ number_end zero_number zero_number (register_number a) false n small

jump_scan : (a : Register) (z : ℤ) → IsSmall z
    → scan_all scan_start (one_register a (signed_decimal z)) ≡ state zero_number (register_number a) (number_of z) true (is_minus z)
jump_scan a z small = one_then a (signed_decimal z) ∙ signed_end zero_number zero_number (register_number a) z small

fills_by : (i : Instr) (s t : Scan) → s ≡ t → Fills i t → Fills i s
fills_by i s t same fills = subst (λ (u : Scan). Fills i u) (sym same) fills

-- an instruction's operands have its numbers
pub fills_again : (i : Instr) → Fills i (scan_all scan_start (operands_of i))
fills_again (instructions.Lui rd imm) = fills_by (instructions.Lui rd imm) _ _ (upper_scan rd imm.value (omega arith)) (refl, refl)
fills_again (instructions.Auipc rd imm) = fills_by (instructions.Auipc rd imm) _ _ (upper_scan rd imm.value (omega arith)) (refl, refl)
fills_again (instructions.Jal rd offset) =
    let small : IsSmall offset.bytes = small_between offset.bytes 1048575 1048574 (omega arith) (omega arith) offset.lowest offset.highest in
    fills_by (instructions.Jal rd offset) _ _ (jump_scan rd offset.bytes small) (refl, refl)
fills_again (instructions.Jalr rd rs1 offset) =
    let small : IsSmall offset.value = small_between offset.value 2047 2047 (omega arith) (omega arith) offset.lowest offset.highest in
    fills_by (instructions.Jalr rd rs1 offset) _ _ (based_scan rd offset.value rs1 small) (refl, refl, refl)
fills_again (instructions.Branch condition rs1 rs2 offset) =
    let small : IsSmall offset.bytes = small_between offset.bytes 4095 4094 (omega arith) (omega arith) offset.lowest offset.highest in
    fills_by (instructions.Branch condition rs1 rs2 offset) _ _ (signed_scan rs1 rs2 offset.bytes small) (refl, refl, refl)
fills_again (instructions.Load op rd rs1 offset) =
    let small : IsSmall offset.value = small_between offset.value 2047 2047 (omega arith) (omega arith) offset.lowest offset.highest in
    fills_by (instructions.Load op rd rs1 offset) _ _ (based_scan rd offset.value rs1 small) (refl, refl, refl)
fills_again (instructions.Store op rs1 rs2 offset) =
    let small : IsSmall offset.value = small_between offset.value 2047 2047 (omega arith) (omega arith) offset.lowest offset.highest in
    fills_by (instructions.Store op rs1 rs2 offset) _ _ (based_scan rs2 offset.value rs1 small) (refl, refl, refl)
fills_again (instructions.RegisterImmediate op rd rs1 imm) =
    let small : IsSmall imm.value = small_between imm.value 2047 2047 (omega arith) (omega arith) imm.lowest imm.highest in
    fills_by (instructions.RegisterImmediate op rd rs1 imm) _ _ (signed_scan rd rs1 imm.value small) (refl, refl, refl)
fills_again (instructions.Shift op rd rs1 count) =
    fills_by (instructions.Shift op rd rs1 count) _ _ (counted_scan rd rs1 count.count (omega arith)) (refl, refl, refl)
fills_again (instructions.Addiw rd rs1 imm) =
    let small : IsSmall imm.value = small_between imm.value 2047 2047 (omega arith) (omega arith) imm.lowest imm.highest in
    fills_by (instructions.Addiw rd rs1 imm) _ _ (signed_scan rd rs1 imm.value small) (refl, refl, refl)
fills_again (instructions.ShiftWord op rd rs1 count) =
    fills_by (instructions.ShiftWord op rd rs1 count) _ _ (counted_scan rd rs1 count.count (omega arith)) (refl, refl, refl)
fills_again (instructions.RegisterRegister op rd rs1 rs2) =
    fills_by (instructions.RegisterRegister op rd rs1 rs2) _ _ (registers_scan rd rs1 rs2) (refl, refl, refl)
fills_again (instructions.RegisterRegisterWord op rd rs1 rs2) =
    fills_by (instructions.RegisterRegisterWord op rd rs1 rs2) _ _ (registers_scan rd rs1 rs2) (refl, refl, refl)
fills_again (instructions.Fence rd rs1 fields) =
    fills_by (instructions.Fence rd rs1 fields) _ _ (signed_scan rd rs1 (fence_value fields) (fence_small fields)) (refl, refl, refl)
fills_again instructions.Ecall = tt
fills_again instructions.Ebreak = tt
