-- What the instructions that compute give, by the operations of RISC-V Unprivileged ISA, chapters "RV32I", "RV64I" and "M".
-- Operands and results are words of 64 bits, as natural numbers.
use Rattle.std.specs.Prelude.{ℕ, ◌+◌, ◌-◌, ◌*◌, ◌/◌, ◌%◌, ◌^◌, ℤ, pos, ◌*ℤ◌, Bool, not, nat_eq, nat_lt, if◌then◌else◌, bit_and, bit_or}
use Rattle.std.specs.Prelude.{bit_xor, int_lt, int_rem}
use Rattle.std.specs.Int.{w32, w64, w128, cast_unsigned, int_wrap, int_wrapping_div, int_shr}
use Rattle.rv_isa.specs.declared.operation.BranchCondition.{BranchCondition}
use Rattle.rv_isa.specs.declared.operation.BranchCondition.TheVariants.{Eq, Ne, Lt, Ge, Ltu, Geu}
use Rattle.rv_isa.specs.declared.operation.ImmediateOp.{ImmediateOp}
use Rattle.rv_isa.specs.declared.operation.ImmediateOp.TheVariants.{Addi, Slti, Sltiu, Xori, Ori, Andi}
use Rattle.rv_isa.specs.declared.operation.ShiftOp.{ShiftOp}
use Rattle.rv_isa.specs.declared.operation.ShiftOp.TheVariants.{Slli, Srli, Srai}
use Rattle.rv_isa.specs.declared.operation.RegisterOp.{RegisterOp}
use Rattle.rv_isa.specs.declared.operation.RegisterOp.TheVariants.{Add, Sub, Sll, Slt, Sltu, Xor, Srl, Sra, Or, And, Mul, Mulh, Mulhsu}
use Rattle.rv_isa.specs.declared.operation.RegisterOp.TheVariants.{Mulhu, Div, Divu, Rem, Remu}
use Rattle.rv_isa.specs.declared.operation.RegisterWordOp.{RegisterWordOp}
use Rattle.rv_isa.specs.declared.operation.RegisterWordOp.TheVariants.{Addw, Subw, Sllw, Srlw, Sraw, Mulw, Divw, Divuw, Remw, Remuw}
use Rattle.rv_machine.specs.Word.{low, difference, signed, signed_word, word, extended_word}

-- 1 where a test holds, and 0 elsewhere
abbrev pub flag : Bool → ℕ
flag test = if test then 1 else 0

-- shifts of 64 bits: to the left, to the right with zeros, and to the right with copies of the sign
unfoldable pub shifted_left : ℕ → ℕ → ℕ
shifted_left a count = low (a * 2 ^ count)

unfoldable pub shifted_right : ℕ → ℕ → ℕ
shifted_right a count = a / 2 ^ count

unfoldable pub shifted_signed : ℕ → ℕ → ℕ
shifted_signed a count = word (int_shr (signed a) count)

-- the same on the low 32 bits, with the result extended by its sign
unfoldable pub word_shifted_left : ℕ → ℕ → ℕ
word_shifted_left a count = extended_word (a * 2 ^ count)

unfoldable pub word_shifted_right : ℕ → ℕ → ℕ
word_shifted_right a count = extended_word (a % 2 ^ 32 / 2 ^ count)

unfoldable pub word_shifted_signed : ℕ → ℕ → ℕ
word_shifted_signed a count = word (int_shr (signed_word a) count)

-- the upper 64 of the 128 bits of a product
abbrev pub upper_half : ℤ → ℕ
upper_half product = cast_unsigned w128 (int_wrap w128 product) / 2 ^ 64

unfoldable pub product_signed : ℕ → ℕ → ℕ
product_signed a b = upper_half (signed a *ℤ signed b)

unfoldable pub product_mixed : ℕ → ℕ → ℕ
product_mixed a b = upper_half (signed a *ℤ pos b)

unfoldable pub product_unsigned : ℕ → ℕ → ℕ
product_unsigned a b = a * b / 2 ^ 64

-- Division rounds towards zero, and the remainder has the dividend's sign. By zero the quotient has all bits set, and the
-- remainder is the dividend. The one quotient that no word stands for, of the least number by -1, wraps to the least number.
unfoldable pub quotient_signed : ℕ → ℕ → ℕ
quotient_signed a b = if nat_eq b 0 then 2 ^ 64 - 1 else word (int_wrapping_div w64 (signed a) (signed b))

unfoldable pub remainder_signed : ℕ → ℕ → ℕ
remainder_signed a b = if nat_eq b 0 then a else word (int_rem (signed a) (signed b))

unfoldable pub quotient_unsigned : ℕ → ℕ → ℕ
quotient_unsigned a b = if nat_eq b 0 then 2 ^ 64 - 1 else a / b

unfoldable pub remainder_unsigned : ℕ → ℕ → ℕ
remainder_unsigned a b = if nat_eq b 0 then a else a % b

-- the same on the low 32 bits of both, with the result extended by its sign
unfoldable pub word_quotient_signed : ℕ → ℕ → ℕ
word_quotient_signed a b =
    if nat_eq (b % 2 ^ 32) 0 then 2 ^ 64 - 1 else word (int_wrapping_div w32 (signed_word a) (signed_word b))

unfoldable pub word_remainder_signed : ℕ → ℕ → ℕ
word_remainder_signed a b =
    if nat_eq (b % 2 ^ 32) 0 then extended_word a else word (int_rem (signed_word a) (signed_word b))

unfoldable pub word_quotient_unsigned : ℕ → ℕ → ℕ
word_quotient_unsigned a b =
    if nat_eq (b % 2 ^ 32) 0 then 2 ^ 64 - 1 else extended_word (a % 2 ^ 32 / (b % 2 ^ 32))

unfoldable pub word_remainder_unsigned : ℕ → ℕ → ℕ
word_remainder_unsigned a b =
    if nat_eq (b % 2 ^ 32) 0 then extended_word a else extended_word (a % 2 ^ 32 % (b % 2 ^ 32))

-- ADD to AND, and MUL to REMU. A shift takes the low six bits of its second operand as the count
abbrev pub register_value : RegisterOp → ℕ → ℕ → ℕ
register_value Add a b = low (a + b)
register_value Sub a b = difference a b
register_value Sll a b = shifted_left a (b % 2 ^ 6)
register_value Slt a b = flag (int_lt (signed a) (signed b))
register_value Sltu a b = flag (nat_lt a b)
register_value Xor a b = bit_xor a b
register_value Srl a b = shifted_right a (b % 2 ^ 6)
register_value Sra a b = shifted_signed a (b % 2 ^ 6)
register_value Or a b = bit_or a b
register_value And a b = bit_and a b
register_value Mul a b = low (a * b)
register_value Mulh a b = product_signed a b
register_value Mulhsu a b = product_mixed a b
register_value Mulhu a b = product_unsigned a b
register_value Div a b = quotient_signed a b
register_value Divu a b = quotient_unsigned a b
register_value Rem a b = remainder_signed a b
register_value Remu a b = remainder_unsigned a b

-- ADDW to SRAW, and MULW to REMUW. A shift takes the low five bits of its second operand as the count
abbrev pub register_word_value : RegisterWordOp → ℕ → ℕ → ℕ
register_word_value Addw a b = extended_word (a + b)
register_word_value Subw a b = extended_word (difference a b)
register_word_value Sllw a b = word_shifted_left a (b % 2 ^ 5)
register_word_value Srlw a b = word_shifted_right a (b % 2 ^ 5)
register_word_value Sraw a b = word_shifted_signed a (b % 2 ^ 5)
register_word_value Mulw a b = extended_word (a * b)
register_word_value Divw a b = word_quotient_signed a b
register_word_value Divuw a b = word_quotient_unsigned a b
register_word_value Remw a b = word_remainder_signed a b
register_word_value Remuw a b = word_remainder_unsigned a b

-- ADDI to ANDI, at the word of the immediate
abbrev pub immediate_value : ImmediateOp → ℕ → ℕ → ℕ
immediate_value Addi a b = low (a + b)
immediate_value Slti a b = flag (int_lt (signed a) (signed b))
immediate_value Sltiu a b = flag (nat_lt a b)
immediate_value Xori a b = bit_xor a b
immediate_value Ori a b = bit_or a b
immediate_value Andi a b = bit_and a b

-- SLLI, SRLI and SRAI, and SLLIW, SRLIW and SRAIW
abbrev pub shift_value : ShiftOp → ℕ → ℕ → ℕ
shift_value Slli a count = shifted_left a count
shift_value Srli a count = shifted_right a count
shift_value Srai a count = shifted_signed a count

abbrev pub shift_word_value : ShiftOp → ℕ → ℕ → ℕ
shift_word_value Slli a count = word_shifted_left a count
shift_word_value Srli a count = word_shifted_right a count
shift_word_value Srai a count = word_shifted_signed a count

-- whether a branch is taken
abbrev pub is_taken : BranchCondition → ℕ → ℕ → Bool
is_taken Eq a b = nat_eq a b
is_taken Ne a b = not (nat_eq a b)
is_taken Lt a b = int_lt (signed a) (signed b)
is_taken Ge a b = not (int_lt (signed a) (signed b))
is_taken Ltu a b = nat_lt a b
is_taken Geu a b = not (nat_lt a b)
