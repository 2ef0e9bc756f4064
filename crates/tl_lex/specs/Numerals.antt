-- Numerals. How large one may be is no rule of tokens.
use Rattle.std.specs.Prelude.{ℕ, Bool, false, List, [], ◌∷◌, take, drop, if◌then◌else◌, ◌==◌, ◌||◌, ◌&&◌, nat_lt, codes, bytes_eq}
use Rattle.std.specs.List.{prefix_len}
use Rattle.tl_lex.specs.Bytes.{is_digit, is_hex_digit, is_numeral_byte}
use Rattle.tl_lex.specs.declared.TokenKind.TheVariants as kinds
use Rattle.tl_lex.specs.declared.SyntaxKind.TheVariants as why
use Rattle.tl_lex.specs.declared.front.Front.{Front}
use Rattle.tl_lex.specs.declared.front.Front.TheVariants as fronts

-- no suffix, `LL` or `ULL`
abbrev pub is_suffix : List ℕ → Bool
is_suffix bytes = bytes_eq bytes [] || (bytes_eq bytes (codes "LL") || bytes_eq bytes (codes "ULL"))

-- at least one digit of the class, then a suffix
abbrev pub is_digits : (ℕ → Bool) → List ℕ → Bool
is_digits class bytes = nat_lt 0 (prefix_len class bytes) && is_suffix (drop (prefix_len class bytes) bytes)

-- `0x` or `0X`, hexadecimal digits, a suffix
abbrev pub is_hexadecimal : List ℕ → Bool
is_hexadecimal (z ∷ x ∷ rest) = ((z == 48) && ((x == 120) || (x == 88))) && is_digits is_hex_digit rest
is_hexadecimal _ = false

unfoldable pub is_numeral : List ℕ → Bool
is_numeral bytes = is_digits is_digit bytes || is_hexadecimal bytes

-- a text that begins with a digit: the longest front of letters, digits, `_` and `.`
unfoldable pub numeral_front : List ℕ → Front
numeral_front bytes =
    let len = prefix_len is_numeral_byte bytes in
    if is_numeral (take len bytes) then fronts.Lexeme kinds.Numeral len else fronts.Refusal why.BadNumber
