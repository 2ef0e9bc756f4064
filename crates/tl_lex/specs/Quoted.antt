-- Literals in quotes, character by character (Lua 5.1 manual, section 2.1).
use Rattle.std.specs.Prelude.{ℕ, zero, suc, ◌+◌, ◌-◌, ◌*◌, ◌%◌, Bool, List, [], ◌∷◌, length, take, drop, map, fold, sum_by, if◌then◌else◌}
use Rattle.std.specs.Prelude.{◌==◌, ◌||◌, nat_lt}
use Rattle.std.specs.List.{prefix_len, list_any}
use Rattle.tl_lex.specs.Bytes.{is_line_end, is_digit}
use Rattle.tl_lex.specs.LineEnds.{line_end_len}
use Rattle.tl_lex.specs.declared.quoted.Character.{Character}

-- a character of the source: how many bytes it has there, and the byte that it stands for
abbrev pub character : ℕ → ℕ → Character
character len value = record { len = len; value = value }

-- the end of the characters
abbrev pub no_character : Character
no_character = character 0 0

-- the number that these decimal digits write
abbrev pub decimal : List ℕ → ℕ
decimal digits = fold (λ n d. 10 * n + (d - 48)) 0 digits

-- what a backslash and this byte stand for: `\a \b \f \n \r \t \v`, or the byte itself
abbrev pub escaped_byte : ℕ → ℕ
escaped_byte c =
    if c == 97 then 7
    else (if c == 98 then 8
    else (if c == 102 then 12
    else (if c == 110 then 10
    else (if c == 114 then 13
    else (if c == 116 then 9
    else (if c == 118 then 11
    else c))))))

-- how many of the first three bytes are digits
abbrev pub decimal_len : List ℕ → ℕ
decimal_len bytes = prefix_len is_digit (take 3 bytes)

-- what follows a backslash: a line end is LF, one to three digits are the byte of that number, another byte is what it stands for
unfoldable pub escape : List ℕ → Character
escape [] = no_character
escape (c ∷ rest) =
    if is_line_end c then character (1 + line_end_len (c ∷ rest)) 10
    else (if is_digit c then character (1 + decimal_len (c ∷ rest)) (decimal (take (decimal_len (c ∷ rest)) (c ∷ rest)))
    else character 2 (escaped_byte c))

-- The first character of a text in these quotes. There is none at the closing quote, at a line end and at the end.
unfoldable pub quoted_character : ℕ → List ℕ → Character
quoted_character quote [] = no_character
quoted_character quote (c ∷ rest) =
    if c == 92 then escape rest
    else (if (c == quote) || is_line_end c then no_character
    else character 1 c)

-- its characters, of which there are at most n
abbrev pub characters_up_to : ℕ → ℕ → List ℕ → List Character
characters_up_to zero quote bytes = []
characters_up_to (suc n) quote bytes =
    if (quoted_character quote bytes).len == 0 then []
    else quoted_character quote bytes ∷ characters_up_to n quote (drop (quoted_character quote bytes).len bytes)

unfoldable pub characters : ℕ → List ℕ → List Character
characters quote bytes = characters_up_to (length bytes) quote bytes

-- how many bytes the characters have
abbrev pub source_len : List Character → ℕ
source_len cs = sum_by (λ (c : Character). c.len) cs

-- the bytes that they stand for; of a bad escape the low byte
abbrev pub values : List Character → List ℕ
values cs = map (λ (c : Character). c.value % 256) cs

-- a decimal escape above 255 stands for no byte
abbrev pub has_bad_escape : List Character → Bool
has_bad_escape cs = list_any (λ (c : Character). nat_lt 255 c.value) cs
