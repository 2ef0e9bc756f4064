-- What a lexer has before it.
use Rattle.std.specs.Prelude.{ℕ, zero, suc, ◌+◌, List, [], ◌∷◌, length, take, drop, if◌then◌else◌, ◌==◌, Result, Ok, Err}
use Rattle.tl_base.specs.declared.place.Place.{Place}
use Rattle.tl_lex.specs.LineEnds.{line_ends}
use Rattle.tl_lex.specs.Fronts.{front_of}
use Rattle.tl_lex.specs.Answers.{Token, Answer, Position, token_at, refusal_at}
use Rattle.tl_lex.specs.declared.TokenKind.TheVariants as kinds
use Rattle.tl_lex.specs.declared.LexError.{LexError}
use Rattle.tl_lex.specs.declared.front.Front.{Front}
use Rattle.tl_lex.specs.declared.front.Front.TheVariants as fronts
use Rattle.tl_lex.specs.declared.token.Token as code
use Rattle.tl_lex.specs.declared.lexer.Lexer as lexers

-- a token of the code, without where its bytes lie in memory
abbrev pub token_of : code.Token → Token
token_of t = record { kind = t.kind; text = t.text.now; place = t.place; offset = t.offset; first_on_line = t.first_on_line }

abbrev pub answer_of : Result code.Token LexError → Answer
answer_of (Ok t) = Ok (token_of t)
answer_of (Err e) = Err e

-- the place behind so many line ends, or behind so many words on the same line
abbrev pub moved : Place → ℕ → ℕ → Place
moved place lines words = record { line = place.line + lines; word = if lines == 0 then place.word + words else 1 }

-- the position behind so many bytes, with so many line ends, or so many words on the same line, in them
abbrev pub behind : Position → ℕ → ℕ → ℕ → Position
behind at len lines words = record { place = moved at.place lines words; offset = at.offset + len }

-- The answers for these bytes, whose first token has this position, by their front. They are a back of `answers_of` the whole text.
abbrev pub counted_at : Front → List ℕ → Position → (List ℕ → Position → List Answer) → List Answer
counted_at fronts.End bytes at more = Ok (token_at kinds.End [] at) ∷ []
counted_at (fronts.Refusal why) bytes at more = Err (refusal_at why at.place) ∷ []
counted_at (fronts.Blank len) bytes at more = more (drop len bytes) (behind at len (line_ends (take len bytes)) 0)
counted_at (fronts.Lexeme kind len) bytes at more =
    Ok (token_at kind (take len bytes) at) ∷ more (drop len bytes) (behind at len (line_ends (take len bytes)) 1)

-- with at most n fronts
abbrev pub counted : ℕ → List ℕ → Position → List Answer
counted zero bytes at = []
counted (suc n) bytes at = counted_at (front_of bytes) bytes at (counted n)

unfoldable pub answers_from : List ℕ → Position → List Answer
answers_from bytes at = counted (length bytes + 1) bytes at

-- where the lexer stands
abbrev pub position_of : lexers.Lexer → Position
position_of l = record { place = l.place; offset = l.offset }

-- the answers that the lexer has before it
abbrev pub answers_left : lexers.Lexer → List Answer
answers_left l = answers_from l.rest.now (position_of l)

-- what is left behind the first answer: the last answer comes again and again
abbrev pub behind_first : List Answer → List Answer
behind_first [] = []
behind_first (a ∷ []) = a ∷ []
behind_first (a ∷ b ∷ more) = b ∷ more

-- no white space and no comment
abbrev pub IsOther : Front → Type 0
IsOther (fronts.Blank n) = ⊥
IsOther (fronts.Lexeme kind n) = Unit {0}
IsOther (fronts.Refusal why) = Unit {0}
IsOther fronts.End = Unit {0}
