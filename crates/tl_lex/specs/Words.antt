-- Names and reserved words.
use Rattle.std.specs.Prelude.{ℕ, Bool, List, [], ◌∷◌, take, if◌then◌else◌, nat_lt, codes, bytes_eq}
use Rattle.std.specs.List.{prefix_len, list_any}
use Rattle.tl_lex.specs.Bytes.{is_name_byte}
use Rattle.tl_lex.specs.declared.TokenKind.{TokenKind}
use Rattle.tl_lex.specs.declared.TokenKind.TheVariants as kinds
use Rattle.tl_lex.specs.declared.SyntaxKind.TheVariants as why
use Rattle.tl_lex.specs.declared.front.Front.{Front}
use Rattle.tl_lex.specs.declared.front.Front.TheVariants as fronts

-- the most bytes of a name
abbrev pub longest_name : ℕ
longest_name = 255

abbrev pub is_one_of : List ℕ → List (List ℕ) → Bool
is_one_of word words = list_any (λ w. bytes_eq word w) words

-- Lua's reserved words (Lua 5.1 manual, section 2.1), and those of Terra code
abbrev pub reserved_words : List (List ℕ)
reserved_words =
    codes "and" ∷ codes "break" ∷ codes "do" ∷ codes "else" ∷ codes "elseif" ∷ codes "end" ∷ codes "false" ∷ codes "for"
    ∷ codes "function" ∷ codes "if" ∷ codes "in" ∷ codes "local" ∷ codes "nil" ∷ codes "not" ∷ codes "or" ∷ codes "repeat"
    ∷ codes "return" ∷ codes "then" ∷ codes "true" ∷ codes "until" ∷ codes "while"
    ∷ codes "terra" ∷ codes "quote" ∷ codes "escape" ∷ codes "emit" ∷ codes "struct" ∷ codes "var" ∷ []

unfoldable pub is_reserved : List ℕ → Bool
is_reserved word = is_one_of word reserved_words

abbrev pub word_kind : List ℕ → TokenKind
word_kind word = if is_reserved word then kinds.Reserved else kinds.Name

-- a text that begins with a letter or `_`: the longest front of letters, digits and `_`
unfoldable pub word_front : List ℕ → Front
word_front bytes =
    let len = prefix_len is_name_byte bytes in
    if nat_lt longest_name len then fronts.Refusal why.NameTooLong else fronts.Lexeme (word_kind (take len bytes)) len
