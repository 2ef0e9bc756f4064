-- What stands at the front of a text: nothing, white space or a comment, a token, or what breaks a rule.
use Rattle.std.specs.Prelude.{ℕ, ◌+◌, ◌*◌, Bool, false, List, [], ◌∷◌, length, drop, if◌then◌else◌, ◌==◌, ◌&&◌, not, nat_lt, Option, Some}
use Rattle.std.specs.Prelude.{None}
use Rattle.std.specs.List.{prefix_len}
use Rattle.tl_base.specs.declared.text.TheConstants.Text.{MAX_LEN}
use Rattle.tl_lex.specs.Bytes.{is_white, is_line_end, begins_name, is_digit, is_quote}
use Rattle.tl_lex.specs.Words.{word_front}
use Rattle.tl_lex.specs.Numerals.{numeral_front}
use Rattle.tl_lex.specs.Signs.{sign_front}
use Rattle.tl_lex.specs.Brackets.{begins_with, bracket_level, inside_at}
use Rattle.tl_lex.specs.Quoted.{characters, source_len, has_bad_escape}
use Rattle.tl_lex.specs.Values.{long_value}
use Rattle.tl_lex.specs.declared.TokenKind.TheVariants as kinds
use Rattle.tl_lex.specs.declared.SyntaxKind.TheVariants as why
use Rattle.tl_lex.specs.declared.front.Front.{Front}
use Rattle.tl_lex.specs.declared.front.Front.TheVariants as fronts

-- the most bytes of a literal's value
abbrev pub longest_value : ℕ
longest_value = MAX_LEN

-- how many bytes come before the first line end
abbrev pub line_len : List ℕ → ℕ
line_len bytes = prefix_len (λ c. not (is_line_end c)) bytes

-- A literal in quotes. A text that doesn't end is refused as such before a bad escape, and a bad escape before the length.
unfoldable pub quoted_front : ℕ → List ℕ → Front
quoted_front quote bytes =
    let cs = characters quote (drop 1 bytes) in
    if not (begins_with quote (drop (1 + source_len cs) bytes)) then fronts.Refusal why.OpenText
    else (if has_bad_escape cs then fronts.Refusal why.BadEscape
    else (if nat_lt longest_value (length cs) then fronts.Refusal why.TextTooLong
    else fronts.Lexeme kinds.Literal (source_len cs + 2)))

-- the bytes of a long text with its brackets, of this level and with this inside
abbrev pub bracketed_len : ℕ → List ℕ → ℕ
bracketed_len level inside = length inside + 2 * (level + 2)

-- a literal in long brackets of this level
abbrev pub long_by : ℕ → Option (List ℕ) → Front
long_by level None = fronts.Refusal why.OpenText
long_by level (Some inside) =
    if nat_lt longest_value (length (long_value inside)) then fronts.Refusal why.TextTooLong
    else fronts.Lexeme kinds.Literal (bracketed_len level inside)

unfoldable pub long_front : ℕ → List ℕ → Front
long_front level bytes = long_by level (inside_at level bytes)

-- A comment behind its `--`: long brackets of some level up to their end, or all up to the line end.
abbrev pub long_comment_by : ℕ → Option (List ℕ) → Front
long_comment_by level None = fronts.Refusal why.OpenText
long_comment_by level (Some inside) = fronts.Blank (2 + bracketed_len level inside)

abbrev pub comment_by : Option ℕ → List ℕ → Front
comment_by (Some level) bytes = long_comment_by level (inside_at level (drop 2 bytes))
comment_by None bytes = fronts.Blank (line_len bytes)

unfoldable pub comment_front : List ℕ → Front
comment_front bytes = comment_by (bracket_level 91 (drop 2 bytes)) bytes

abbrev pub begins_comment : List ℕ → Bool
begins_comment (c ∷ d ∷ rest) = (c == 45) && (d == 45)
begins_comment _ = false

abbrev pub bracket_or_sign_front : Option ℕ → List ℕ → Front
bracket_or_sign_front (Some level) bytes = long_front level bytes
bracket_or_sign_front None bytes = sign_front bytes

-- The front of a text, by its first byte.
unfoldable pub front_of : List ℕ → Front
front_of [] = fronts.End
front_of (c ∷ rest) =
    if is_white c then fronts.Blank (prefix_len is_white (c ∷ rest))
    else (if begins_name c then word_front (c ∷ rest)
    else (if is_digit c then numeral_front (c ∷ rest)
    else (if is_quote c then quoted_front c (c ∷ rest)
    else (if begins_comment (c ∷ rest) then comment_front (c ∷ rest)
    else bracket_or_sign_front (bracket_level 91 (c ∷ rest)) (c ∷ rest)))))
