-- Operands that spell the same field are the same.
use Rattle.std.proofs.Common.{◌≡◌, ◌∙◌, ℕ, ◌+◌, ◌-◌, ◌^◌, ◌%◌, ◌<◌, ◌≤◌, ◌≤ℤ◌, ℤ, pos, negsuc, subst, ap, refl, arith}
use Rattle.std.proofs.lemmas.Int.{ints}
use Rattle.std.proofs.Props.{props}
use Rattle.std.specs.Prelude.{unsigned_abs}
use Rattle.rv_isa.specs.Formats.{twos_complement}
use Rattle.rv_isa.specs.declared.operand.Register.{Register}
use Rattle.rv_isa.specs.declared.operand.Immediate.{Immediate}
use Rattle.rv_isa.specs.declared.operand.UpperImmediate.{UpperImmediate}
use Rattle.rv_isa.specs.declared.operand.BranchOffset.{BranchOffset}
use Rattle.rv_isa.specs.declared.operand.JumpOffset.{JumpOffset}
use Rattle.rv_isa.specs.declared.operand.ShiftCount.{ShiftCount}
use Rattle.rv_isa.specs.declared.operand.WordShiftCount.{WordShiftCount}
use Rattle.rv_isa.specs.declared.operand.FenceFields.{FenceFields}

-- Numbers from -half to half - 1 with one two's complement are the same.
pub twos_complement_same : (size half : ℕ) → 2 ^ size ≡ half + half → 0 < half → (a b : ℤ) → negsuc (half - 1) ≤ℤ a → a ≤ℤ pos (half - 1) → negsuc (half - 1) ≤ℤ b → b ≤ℤ pos (half - 1) → twos_complement size a ≡ twos_complement size b → a ≡ b
twos_complement_same size half whole some (pos m) (pos n) al ah bl bh e = ap pos e
twos_complement_same size half whole some (pos m) (negsuc n) al ah bl bh e = absurd (omega (arith, ints))
twos_complement_same size half whole some (negsuc m) (pos n) al ah bl bh e = absurd (omega (arith, ints))
twos_complement_same size half whole some (negsuc m) (negsuc n) al ah bl bh e = ap negsuc (omega (arith, ints))

register_of : (n : ℕ) → n ≤ 31 → Register
register_of n h = record { number = n; in_range = h }

pub register_same : (a b : Register) → a.number ≡ b.number → a ≡ b
unfolding register_of
register_same a b e =
    let P : ℕ → Type 0 = λ n. (h : n ≤ 31) → a ≡ register_of n h in
    let one : IsProp (a.number ≤ 31) = hlevel props in
    subst P e (λ h. ap (λ x. register_of a.number x) (one a.in_range h)) b.in_range

upper_immediate_of : (n : ℕ) → n < 2 ^ 20 → UpperImmediate
upper_immediate_of n h = record { value = n; in_range = h }

pub upper_immediate_same : (a b : UpperImmediate) → a.value ≡ b.value → a ≡ b
unfolding upper_immediate_of
upper_immediate_same a b e =
    let P : ℕ → Type 0 = λ n. (h : n < 2 ^ 20) → a ≡ upper_immediate_of n h in
    let one : IsProp (a.value < 2 ^ 20) = hlevel props in
    subst P e (λ h. ap (λ x. upper_immediate_of a.value x) (one a.in_range h)) b.in_range

shift_count_of : (n : ℕ) → n ≤ 63 → ShiftCount
shift_count_of n h = record { count = n; in_range = h }

pub shift_count_same : (a b : ShiftCount) → a.count ≡ b.count → a ≡ b
unfolding shift_count_of
shift_count_same a b e =
    let P : ℕ → Type 0 = λ n. (h : n ≤ 63) → a ≡ shift_count_of n h in
    let one : IsProp (a.count ≤ 63) = hlevel props in
    subst P e (λ h. ap (λ x. shift_count_of a.count x) (one a.in_range h)) b.in_range

word_shift_count_of : (n : ℕ) → n ≤ 31 → WordShiftCount
word_shift_count_of n h = record { count = n; in_range = h }

pub word_shift_count_same : (a b : WordShiftCount) → a.count ≡ b.count → a ≡ b
unfolding word_shift_count_of
word_shift_count_same a b e =
    let P : ℕ → Type 0 = λ n. (h : n ≤ 31) → a ≡ word_shift_count_of n h in
    let one : IsProp (a.count ≤ 31) = hlevel props in
    subst P e (λ h. ap (λ x. word_shift_count_of a.count x) (one a.in_range h)) b.in_range

fence_fields_of : (n : ℕ) → n < 2 ^ 12 → FenceFields
fence_fields_of n h = record { bits = n; in_range = h }

pub fence_fields_same : (a b : FenceFields) → a.bits ≡ b.bits → a ≡ b
unfolding fence_fields_of
fence_fields_same a b e =
    let P : ℕ → Type 0 = λ n. (h : n < 2 ^ 12) → a ≡ fence_fields_of n h in
    let one : IsProp (a.bits < 2 ^ 12) = hlevel props in
    subst P e (λ h. ap (λ x. fence_fields_of a.bits x) (one a.in_range h)) b.in_range

immediate_of : (z : ℤ) → negsuc 2047 ≤ℤ z → z ≤ℤ pos 2047 → Immediate
immediate_of z l h = record { value = z; lowest = l; highest = h }

pub immediate_same : (a b : Immediate) → twos_complement 12 a.value ≡ twos_complement 12 b.value → a ≡ b
unfolding immediate_of
immediate_same a b e =
    let P : ℤ → Type 0 = λ z. (l : negsuc 2047 ≤ℤ z) → (h : z ≤ℤ pos 2047) → a ≡ immediate_of z l h in
    let lowest_one : IsProp (negsuc 2047 ≤ℤ a.value) = hlevel props in
    let highest_one : IsProp (a.value ≤ℤ pos 2047) = hlevel props in
    let values : a.value ≡ b.value = twos_complement_same 12 2048 refl (omega arith) a.value b.value a.lowest (omega (arith, ints, a.highest)) b.lowest (omega (arith, ints, b.highest)) e in
    subst P values (λ l h. ap (λ x. immediate_of a.value x a.highest) (lowest_one a.lowest l) ∙ (ap (λ x. immediate_of a.value l x) (highest_one a.highest h))) b.lowest b.highest

branch_offset_of : (z : ℤ) → negsuc 4095 ≤ℤ z → z ≤ℤ pos 4094 → unsigned_abs z % 2 ≡ 0 → BranchOffset
branch_offset_of z l h v = record { bytes = z; lowest = l; highest = h; even = v }

pub branch_offset_same : (a b : BranchOffset) → twos_complement 13 a.bytes ≡ twos_complement 13 b.bytes → a ≡ b
unfolding branch_offset_of
branch_offset_same a b e =
    let P : ℤ → Type 0 = λ z. (l : negsuc 4095 ≤ℤ z) → (h : z ≤ℤ pos 4094) → (v : unsigned_abs z % 2 ≡ 0) → a ≡ branch_offset_of z l h v in
    let lowest_one : IsProp (negsuc 4095 ≤ℤ a.bytes) = hlevel props in
    let highest_one : IsProp (a.bytes ≤ℤ pos 4094) = hlevel props in
    let even_one : IsProp (unsigned_abs a.bytes % 2 ≡ 0) = hlevel props in
    let values : a.bytes ≡ b.bytes = twos_complement_same 13 4096 refl (omega arith) a.bytes b.bytes a.lowest (omega (arith, ints, a.highest)) b.lowest (omega (arith, ints, b.highest)) e in
    subst P values (λ l h v. ap (λ x. branch_offset_of a.bytes x a.highest a.even) (lowest_one a.lowest l) ∙ (ap (λ x. branch_offset_of a.bytes l x a.even) (highest_one a.highest h) ∙ (ap (λ x. branch_offset_of a.bytes l h x) (even_one a.even v)))) b.lowest b.highest b.even

jump_offset_of : (z : ℤ) → negsuc 1048575 ≤ℤ z → z ≤ℤ pos 1048574 → unsigned_abs z % 2 ≡ 0 → JumpOffset
jump_offset_of z l h v = record { bytes = z; lowest = l; highest = h; even = v }

pub jump_offset_same : (a b : JumpOffset) → twos_complement 21 a.bytes ≡ twos_complement 21 b.bytes → a ≡ b
unfolding jump_offset_of
jump_offset_same a b e =
    let P : ℤ → Type 0 = λ z. (l : negsuc 1048575 ≤ℤ z) → (h : z ≤ℤ pos 1048574) → (v : unsigned_abs z % 2 ≡ 0) → a ≡ jump_offset_of z l h v in
    let lowest_one : IsProp (negsuc 1048575 ≤ℤ a.bytes) = hlevel props in
    let highest_one : IsProp (a.bytes ≤ℤ pos 1048574) = hlevel props in
    let even_one : IsProp (unsigned_abs a.bytes % 2 ≡ 0) = hlevel props in
    let values : a.bytes ≡ b.bytes = twos_complement_same 21 1048576 refl (omega arith) a.bytes b.bytes a.lowest (omega (arith, ints, a.highest)) b.lowest (omega (arith, ints, b.highest)) e in
    subst P values (λ l h v. ap (λ x. jump_offset_of a.bytes x a.highest a.even) (lowest_one a.lowest l) ∙ (ap (λ x. jump_offset_of a.bytes l x a.even) (highest_one a.highest h) ∙ (ap (λ x. jump_offset_of a.bytes l h x) (even_one a.even v)))) b.lowest b.highest b.even
