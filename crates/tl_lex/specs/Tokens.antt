-- Which bytes are a token by themselves, said apart from how a text is divided.
use Rattle.std.specs.Prelude.{ℕ, ◌+◌, ◌-◌, ◌*◌, Bool, false, List, [], ◌∷◌, length, drop, ◌==◌, ◌||◌, ◌&&◌, not, nat_le, Option, Some, None}
use Rattle.std.specs.Prelude.{codes, bytes_eq}
use Rattle.std.specs.List.{list_all}
use Rattle.tl_lex.specs.Bytes.{begins_name, is_name_byte, is_quote}
use Rattle.tl_lex.specs.Words.{longest_name, is_one_of, is_reserved}
use Rattle.tl_lex.specs.Numerals.{is_numeral}
use Rattle.tl_lex.specs.Brackets.{bracket_level, closing_place}
use Rattle.tl_lex.specs.Quoted.{characters, source_len}
use Rattle.tl_lex.specs.declared.TokenKind.{TokenKind}
use Rattle.tl_lex.specs.declared.TokenKind.TheVariants as kinds

-- a letter or `_`, then letters, digits and `_`
abbrev pub is_word : List ℕ → Bool
is_word [] = false
is_word (c ∷ rest) = begins_name c && list_all is_name_byte rest

-- the operators, brackets and marks
abbrev pub signs : List (List ℕ)
signs =
    codes "+" ∷ codes "-" ∷ codes "*" ∷ codes "/" ∷ codes "%" ∷ codes "^" ∷ codes "#" ∷ codes "==" ∷ codes "~=" ∷ codes "<="
    ∷ codes ">=" ∷ codes "<" ∷ codes ">" ∷ codes "=" ∷ codes "(" ∷ codes ")" ∷ codes "{" ∷ codes "}" ∷ codes "[" ∷ codes "]"
    ∷ codes ";" ∷ codes ":" ∷ codes "::" ∷ codes "," ∷ codes "." ∷ codes ".." ∷ codes "..." ∷ codes "->" ∷ codes "@" ∷ codes "&"
    ∷ codes "<<" ∷ codes ">>" ∷ codes "`" ∷ []

-- in quotes: characters between two quotes
abbrev pub is_quoted : List ℕ → Bool
is_quoted [] = false
is_quoted (quote ∷ rest) = is_quote quote && bytes_eq (drop (source_len (characters quote rest)) rest) (quote ∷ [])

-- in long brackets of this level: the first closing bracket is the end
abbrev pub ends_at : Option ℕ → ℕ → Bool
ends_at None len = false
ends_at (Some inside) len = inside == len

abbrev pub is_long_at : Option ℕ → List ℕ → Bool
is_long_at None bytes = false
is_long_at (Some level) bytes = ends_at (closing_place level (drop (level + 2) bytes)) (length bytes - 2 * (level + 2))

-- These bytes are a token of this kind. Sizes of values, and escapes above 255, are left to the refusals.
unfoldable pub is_token : TokenKind → List ℕ → Bool
is_token kinds.Name bytes = is_word bytes && (not (is_reserved bytes) && nat_le (length bytes) longest_name)
is_token kinds.Reserved bytes = is_reserved bytes
is_token kinds.Sign bytes = is_one_of bytes signs
is_token kinds.Numeral bytes = is_numeral bytes
is_token kinds.Literal bytes = is_quoted bytes || is_long_at (bracket_level 91 bytes) bytes
is_token kinds.End bytes = bytes_eq bytes []
