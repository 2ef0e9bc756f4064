-- The arguments of a run.
use Rattle.std.specs.Prelude.{ℕ, Bool, ◌+◌, ◌-◌, ◌*◌, ◌^◌, List, [], ◌∷◌, length, drop, Option, Some, None}
use Rattle.std.specs.Prelude.{option_and_then, if◌then◌else◌, ◌&&◌, ◌==◌, nat_le, nat_lt, false, codes}
use Rattle.std.specs.List.{list_all}
use Rattle.std.specs.Char.{is_ascii_digit}
use Rattle.std.specs.Str.{bytes_eq}
use Rattle.elf_image.specs.Calls.{word_above, word_below}

-- the number that begins with this one and goes on with these decimal digits
abbrev pub digits_onto : ℕ → List ℕ → ℕ
digits_onto number [] = number
digits_onto number (digit ∷ digits) = digits_onto (10 * number + (digit - 48)) digits

-- the number that these decimal digits are
abbrev pub number_of : List ℕ → ℕ
number_of digits = digits_onto 0 digits

-- a number that has 64 bits at most
abbrev pub below_64_bits : ℕ → Option ℕ
below_64_bits number = if nat_lt number (2 ^ 64) then Some number else None

-- 1 to 20 decimal digits
abbrev pub is_number : List ℕ → Bool
is_number digits = list_all is_ascii_digit digits && (nat_le 1 (length digits) && nat_le (length digits) 20)

-- the number of such digits, where it has 64 bits at most
abbrev pub size_of : List ℕ → Option ℕ
size_of digits = if is_number digits then below_64_bits (number_of digits) else None

-- a word that begins with `-`
abbrev pub begins_with_dash : List ℕ → Bool
begins_with_dash [] = false
begins_with_dash (byte ∷ bytes) = byte == 45

-- `true` or `false`
abbrev pub bool_word : List ℕ → Option ℕ
bool_word text = if bytes_eq text (codes "true") then Some 1 else (if bytes_eq text (codes "false") then Some 0 else None)

-- an optional `-` and 1 to 20 decimal digits, with a value in the range of the type of this code
abbrev pub number_word : ℕ → List ℕ → Option ℕ
number_word code text =
    if begins_with_dash text then option_and_then (word_below code) (size_of (drop 1 text))
    else option_and_then (word_above code) (size_of text)

-- The 64-bit word of an argument for a parameter of the type of this code, whose code for bool is 9. None where it is bad.
abbrev pub argument_of : ℕ → List ℕ → Option ℕ
argument_of code text = if code == 9 then bool_word text else number_word code text

-- the arguments as words, or the least position at which a word is bad, missing or one too many
pub data Arguments : Type 0 where
  Good : (values : List ℕ) → Arguments
  Bad : (position : ℕ) → Arguments

abbrev pub with_argument : ℕ → Arguments → Arguments
with_argument value (Good values) = Good (value ∷ values)
with_argument value (Bad position) = Bad position

abbrev pub then_arguments : Option ℕ → ℕ → Arguments → Arguments
then_arguments None position others = Bad position
then_arguments (Some value) position others = with_argument value others

-- the arguments for parameters of the types of these codes, of words that begin at this position
abbrev pub arguments_of : List ℕ → ℕ → List (List ℕ) → Arguments
arguments_of [] position [] = Good []
arguments_of [] position (word ∷ words) = Bad position
arguments_of (code ∷ codes) position [] = Bad position
arguments_of (code ∷ codes) position (word ∷ words) =
    then_arguments (argument_of code word) position (arguments_of codes (position + 1) words)
