-- What numerals stand for, and how large they may be.
use Rattle.std.specs.Prelude.{ℕ, ◌+◌, ◌-◌, ◌*◌, Bool, false, List, [], ◌∷◌, drop, if◌then◌else◌, ◌==◌, ◌||◌, ◌&&◌}
use Rattle.std.specs.Prelude.{nat_lt, nat_le, Option, Some, None}
use Rattle.std.specs.Option.{option_map_or}
use Rattle.tl_base.specs.declared.limits.TheConstants.{LARGEST_NUMBER}
use Rattle.tl_lex.specs.Bytes.{is_hex_digit}
use Rattle.tl_tree.specs.declared.symbol.Symbol.{Symbol}
use Rattle.tl_tree.specs.declared.symbol.Symbol.TheVariants as symbols

-- the value that a digit or letter has as a digit, small and large letters alike
abbrev pub digit_value : ℕ → ℕ
digit_value c = if nat_le 97 c then c - 87 else (if nat_le 65 c then c - 55 else c - 48)

-- the value of a digit of a base up to 16
abbrev pub digit_of : ℕ → ℕ → Option ℕ
digit_of base c = if is_hex_digit c && nat_lt (digit_value c) base then Some (digit_value c) else None

-- the number that digits of a base write, up to what is no such digit, behind digits that write `before`
abbrev pub number_in : ℕ → ℕ → List ℕ → ℕ
number_in base before [] = before
number_in base before (c ∷ rest) = option_map_or (λ d. number_in base (before * base + d) rest) (digit_of base c) before

-- the text begins with `0x` or `0X`
abbrev pub begins_hexadecimal : List ℕ → Bool
begins_hexadecimal (z ∷ x ∷ rest) = (z == 48) && ((x == 120) || (x == 88))
begins_hexadecimal _ = false

-- the value of a numeral: decimal digits, or `0x` or `0X` and hexadecimal digits, and a suffix
unfoldable pub value_of : List ℕ → ℕ
value_of text = if begins_hexadecimal text then number_in 16 0 (drop 2 text) else number_in 10 0 text

-- a number that has 64 bits at most
abbrev pub fitting : ℕ → Option ℕ
fitting n = if nat_lt n 18446744073709551616 then Some n else None

-- the largest number of Lua code
abbrev pub largest_lua : ℕ
largest_lua = LARGEST_NUMBER

-- the largest numeral of Terra code: an int32, or with `LL` an int64, or with `ULL` a uint64
abbrev pub largest_terra : Symbol → ℕ
largest_terra symbols.LongNumeral = 9223372036854775807
largest_terra symbols.UnsignedNumeral = 18446744073709551615
largest_terra _ = 2147483647
