-- Words of 64 bits, and what operators give of them. A word stands for a number of a width: its low bits, with the bits
-- above zero, or copies of the sign where the width has one.
use Rattle.std.specs.Prelude.{ℕ, ◌+◌, ◌-◌, ◌*◌, ◌/◌, ◌%◌, ◌^◌, ℤ, pos, negsuc, Bool, true, false, not, ◌&&◌, nat_eq, nat_lt, nat_le}
use Rattle.std.specs.Prelude.{if◌then◌else◌, bit_and, bit_or, bit_xor}
use Rattle.tl_base.specs.declared.limits.TheConstants.{MAX_CALLS}
use Rattle.terra_words.specs.declared.words.BinaryOperator.{BinaryOperator}
use Rattle.terra_words.specs.declared.words.BinaryOperator.TheVariants.{Add, Subtract, Multiply, Divide, Modulo, Xor, And, Or, ShiftLeft}
use Rattle.terra_words.specs.declared.words.BinaryOperator.TheVariants.{ShiftRight, Equal, NotEqual, Less, LessEqual, Greater, GreaterEqual}
use Rattle.terra_words.specs.declared.words.FaultKind.{FaultKind}
use Rattle.terra_words.specs.declared.words.FaultKind.TheVariants.{BadAddress, DivZero, StackFull, CallDepth, NoReturn, BadCall}
use Rattle.terra_words.specs.declared.words.Width.{Width}

-- the word of a number's low bits
unfoldable pub wrapped : Width → ℕ → ℕ
wrapped w n =
    let low = n % 2 ^ w.bits in
    if w.signed && nat_le (2 ^ (w.bits - 1)) low then low + (2 ^ 64 - 2 ^ w.bits) else low

-- addresses
abbrev pub address_width : Width
address_width = record { signed = false; bits = 64 }

abbrev pub long_width : Width
long_width = record { signed = true; bits = 64 }

-- a word below 2 ^ 63, read as a number with a sign, isn't negative
abbrev pub is_negative : ℕ → Bool
is_negative x = nat_le (2 ^ 63) x

abbrev pub signed : ℕ → ℤ
signed x = if is_negative x then negsuc (2 ^ 64 - x - 1) else pos x

-- 1 where a test holds, and 0 elsewhere
abbrev pub flag : Bool → ℕ
flag test = if test then 1 else 0

abbrev opposite : ℕ → ℕ
opposite x = 2 ^ 64 - x

abbrev magnitude : ℕ → ℕ
magnitude x = if is_negative x then opposite x else x

abbrev differ : Bool → Bool → Bool
differ true b = not b
differ false b = b

-- quotients round towards zero, and a remainder has the dividend's sign
abbrev quotient : Bool → ℕ → ℕ → ℕ
quotient false x y = x / y
quotient true x y =
    let q = magnitude x / magnitude y in
    if differ (is_negative x) (is_negative y) then opposite q else q

abbrev remainder : Bool → ℕ → ℕ → ℕ
remainder false x y = x % y
remainder true x y =
    let r = magnitude x % magnitude y in
    if is_negative x then opposite r else r

-- a shift to the right copies the sign
abbrev shifted : Bool → ℕ → ℕ → ℕ
shifted has_sign x n =
    if has_sign && is_negative x then 2 ^ 64 - 1 - (2 ^ 64 - 1 - x) / 2 ^ n else x / 2 ^ n

abbrev pub is_less : Width → ℕ → ℕ → Bool
is_less w x y = if w.signed then nat_lt ((x + 2 ^ 63) % 2 ^ 64) ((y + 2 ^ 63) % 2 ^ 64) else nat_lt x y

-- what an operator gives of two words of a width, where a divisor isn't zero; a comparison gives 1 or 0
unfoldable pub applied : Width → BinaryOperator → ℕ → ℕ → ℕ
applied w Add x y = wrapped w (x + y)
applied w Subtract x y = wrapped w (x + opposite y)
applied w Multiply x y = wrapped w (x * y)
applied w Divide x y = wrapped w (quotient w.signed x y)
applied w Modulo x y = wrapped w (remainder w.signed x y)
applied w Xor x y = wrapped w (bit_xor x y)
applied w And x y = wrapped w (bit_and x y)
applied w Or x y = wrapped w (bit_or x y)
applied w ShiftLeft x y = wrapped w (x * 2 ^ (y % w.bits))
applied w ShiftRight x y = wrapped w (shifted w.signed x (y % w.bits))
applied w Equal x y = flag (nat_eq x y)
applied w NotEqual x y = flag (not (nat_eq x y))
applied w Less x y = flag (is_less w x y)
applied w LessEqual x y = flag (not (is_less w y x))
applied w Greater x y = flag (is_less w y x)
applied w GreaterEqual x y = flag (not (is_less w x y))

-- the operators that fault where the second operand is zero
abbrev pub divides : BinaryOperator → Bool
divides Divide = true
divides Modulo = true
divides _ = false

unfoldable pub negated : Width → ℕ → ℕ
negated w x = wrapped w (opposite x)

unfoldable pub complemented : Width → ℕ → ℕ
complemented w x = wrapped w (2 ^ 64 - 1 - x)

-- an address moved by so many bytes wraps at 64 bits
abbrev pub moved : ℕ → ℕ → ℕ
moved address bytes = (address + bytes) % 2 ^ 64

-- the number of a fault
abbrev pub fault_number : FaultKind → ℕ
fault_number BadAddress = 1
fault_number DivZero = 2
fault_number StackFull = 3
fault_number CallDepth = 4
fault_number NoReturn = 5
fault_number BadCall = 6

-- the operators that compare, which give a bool
abbrev pub is_comparison : BinaryOperator → Bool
is_comparison Equal = true
is_comparison NotEqual = true
is_comparison Less = true
is_comparison LessEqual = true
is_comparison Greater = true
is_comparison GreaterEqual = true
is_comparison _ = false

-- how many calls may be going on at once, the entry's included
abbrev pub most_calls : ℕ
most_calls = MAX_CALLS
