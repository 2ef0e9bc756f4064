-- The answers for a text: its tokens in order with their places, up to the end token or the first refusal.
use Rattle.std.specs.Prelude.{ℕ, zero, suc, ◌+◌, Bool, List, [], ◌∷◌, ◌++◌, length, take, drop, if◌then◌else◌, ◌==◌, count_by, Result, Ok}
use Rattle.std.specs.Prelude.{Err}
use Rattle.tl_base.specs.declared.place.Place.{Place}
use Rattle.tl_lex.specs.Brackets.{begins_with}
use Rattle.tl_lex.specs.LineEnds.{line_ends}
use Rattle.tl_lex.specs.Fronts.{front_of, line_len}
use Rattle.tl_lex.specs.declared.TokenKind.{TokenKind}
use Rattle.tl_lex.specs.declared.TokenKind.TheVariants as kinds
use Rattle.tl_lex.specs.declared.SyntaxKind.{SyntaxKind}
use Rattle.tl_lex.specs.declared.LexError.{LexError}
use Rattle.tl_lex.specs.declared.front.Front.{Front}
use Rattle.tl_lex.specs.declared.front.Front.TheVariants as fronts

-- a token, without where its bytes lie in memory
pub record Token : Type 0 where
  pub kind : TokenKind
  pub text : List ℕ
  pub place : Place
  -- how many bytes of the text are before it
  pub offset : ℕ
  pub first_on_line : Bool

-- where a token begins: its place, and how many bytes of the text are before it
pub record Position : Type 0 where
  pub place : Place
  pub offset : ℕ

abbrev pub Answer : Type 0
Answer = Result Token LexError

abbrev pub token_at : TokenKind → List ℕ → Position → Token
token_at kind text at = record { kind = kind; text = text; place = at.place; offset = at.offset; first_on_line = at.place.word == 1 }

abbrev pub refusal_at : SyntaxKind → Place → LexError
refusal_at kind place = record { kind = kind; place = place }

abbrev pub place_at : ℕ → ℕ → Place
place_at line word = record { line = line; word = word }

-- The place of what stands behind these bytes and these tokens: the line is one more than the line ends before it, the word
-- one more than the tokens that begin earlier on that line.
abbrev pub place_behind : List ℕ → List Token → Place
place_behind passed tokens =
    let line = 1 + line_ends passed in
    place_at line (1 + count_by (λ (t : Token). t.place.line == line) tokens)

-- the position of what stands there
abbrev pub position_behind : List ℕ → List Token → Position
position_behind passed tokens = record { place = place_behind passed tokens; offset = length passed }

-- One front of the text `bytes`, which stands behind the bytes `passed` and the tokens `tokens`. The rest is `more`.
abbrev pub answers_at : Front → List ℕ → List Token → List ℕ → (List ℕ → List Token → List ℕ → List Answer) → List Answer
answers_at fronts.End passed tokens bytes more = Ok (token_at kinds.End [] (position_behind passed tokens)) ∷ []
answers_at (fronts.Refusal why) passed tokens bytes more = Err (refusal_at why (place_behind passed tokens)) ∷ []
answers_at (fronts.Blank len) passed tokens bytes more = more (passed ++ take len bytes) tokens (drop len bytes)
answers_at (fronts.Lexeme kind len) passed tokens bytes more =
    let token = token_at kind (take len bytes) (position_behind passed tokens) in
    Ok token ∷ more (passed ++ take len bytes) (tokens ++ token ∷ []) (drop len bytes)

-- the answers for `bytes`, which have at most n fronts with the end
abbrev pub answers_behind : ℕ → List ℕ → List Token → List ℕ → List Answer
answers_behind zero passed tokens bytes = []
answers_behind (suc n) passed tokens bytes = answers_at (front_of bytes) passed tokens bytes (answers_behind n)

-- a first line that begins with `#`, without its line end
abbrev pub first_line_len : List ℕ → ℕ
first_line_len text = if begins_with 35 text then line_len text else 0

unfoldable pub answers_of : List ℕ → List Answer
answers_of text = answers_behind (length text + 1) (take (first_line_len text) text) [] (drop (first_line_len text) text)
