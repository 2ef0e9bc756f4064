-- Reading, as one promise: which text has which tree, which text is refused where and why, that each text has one of
-- the two, and that what goes on as a list of tokens goes on as a text.
use Rattle.std.specs.Prelude.{◌≡◌, ℕ, List, ◌++◌}
use Rattle.std.specs.Str.{IsUtf8}
use Rattle.tl_base.specs.declared.place.Place.{Place}
use Rattle.tl_lex.specs.declared.SyntaxKind.{SyntaxKind}
use Rattle.tl_tree.specs.Tokens.{Token, tokens_of, place_of, finish_of}
use Rattle.tl_tree.specs.Tree.{Tree}
use Rattle.tl_tree.specs.Refusing.{Language, HasTree, NoRow, Viable, any}
use Rattle.tl_tree.specs.Refusing as of_tokens
use Rattle.tl_tree.specs.Laws.{IsChunk}

-- ---- the answer

-- The text is a chunk of Lua and Terra code, of this tree.
abbrev pub Reads : List ℕ → Tree → Type 0
Reads text tree = HasTree IsChunk (tokens_of text) tree

-- The text is refused for this reason at this place: at the first token of the rest, or at the end where there is none.
pub record Refuses (text : List ℕ) (kind : SyntaxKind) (place : Place) : Type 0 where
  pub rest : List Token
  pub refuses : of_tokens.Refuses IsChunk (tokens_of text) kind rest
  pub is_there : place ≡ place_of rest (finish_of text)

-- a text's tree, or why and where it is refused
pub data TextAnswer : Type 0 where
  TreeOf : Tree → TextAnswer
  RefusedAt : SyntaxKind → Place → TextAnswer

-- what an answer says of a text
abbrev pub SaysOf : List ℕ → TextAnswer → Type 0
SaysOf text (TreeOf tree) = Reads text tree
SaysOf text (RefusedAt kind place) = Refuses text kind place

-- a text has one tree, or is refused at one place for one reason
abbrev pub HasOneTextAnswer : List ℕ → Type 0
HasOneTextAnswer text = (x : TextAnswer) × SaysOf text x × ((y : TextAnswer) → SaysOf text y → y ≡ x)

-- ---- what goes on

-- The text begins with bytes that have exactly these tokens, and with other bytes behind them a text is read, the
-- limits aside. That text is UTF-8 where this is.
abbrev pub TextGoesOn : {A : Type 0} → Language A → List ℕ → List Token → Type 0
TextGoesOn {A} Reads text front =
    (begun unread other : List ℕ) × (more : List Token) × (tree : A)
    × (text ≡ begun ++ unread) × (IsUtf8 text → IsUtf8 (begun ++ other)) × (tokens_of begun ≡ front)
    × (tokens_of (begun ++ other) ≡ front ++ more) × Reads any (front ++ more) tree

-- Where some list of tokens that begins with those that a text begins with is read, the text goes on behind them.
abbrev pub GoesOnAsText : {A : Type 0} → Language A → Type 0
GoesOnAsText Reads = (text : List ℕ) (front rest : List Token) → tokens_of text ≡ front ++ rest → Viable Reads front
    → TextGoesOn Reads text front

-- So it does where no row of the refusal table holds at any of them.
abbrev pub GoesOnUnrefused : {A : Type 0} → Language A → Type 0
GoesOnUnrefused Reads = (text : List ℕ) (front rest : List Token) → tokens_of text ≡ front ++ rest → NoRow Reads front
    → TextGoesOn Reads text front
