-- Which lists of tokens have a tree, and at which token one is refused that has none.
use Rattle.std.specs.Prelude.{◌≡◌, ℕ, suc, ◌<◌, Bool, true, false, not, List, [], ◌∷◌, ◌++◌, length, if◌then◌else◌}
use Rattle.std.specs.Prelude.{◌==◌, ◌⊎◌, Option, Some, None}
use Rattle.tl_lex.specs.declared.SyntaxKind.{SyntaxKind}
use Rattle.tl_lex.specs.declared.SyntaxKind.TheVariants.{BadByte, OpenText, BadEscape, BadNumber, NameTooLong}
use Rattle.tl_lex.specs.declared.SyntaxKind.TheVariants.{TextTooLong, TooDeep, Ambiguous, Unexpected, TooLong, NotUtf8}
use Rattle.tl_tree.specs.declared.symbol.Symbol.TheVariants.{Bad}
use Rattle.tl_tree.specs.Tokens.{Token}
use Rattle.tl_tree.specs.Grammar.{breaks, bar, Rule, Outcome, Took, Stop, blame}

-- every use is allowed
abbrev pub any : Rule
any usage ts = true

abbrev pub is_allowed : Option SyntaxKind → Bool
is_allowed None = true
is_allowed (Some kind) = false

-- no use goes past the limits
abbrev pub limits : Rule
limits usage [] = true
limits usage (t ∷ ts) = is_allowed (bar usage t)

-- One limit at one token: the token that has these tokens after it is not put to a use that goes past the limits in
-- this way. All else is allowed.
abbrev pub limit_at : SyntaxKind → List Token → Rule
limit_at kind after usage [] = true
limit_at kind after usage (t ∷ ts) = if length (t ∷ ts) == suc (length after) then not (breaks kind usage t) else true

-- Under which rule which tokens are read, as which tree.
abbrev pub Language : Type 0 → Type 1
Language A = Rule → List Token → A → Type 0

-- The tokens have this tree.
abbrev pub HasTree : {A : Type 0} → Language A → List Token → A → Type 0
HasTree Reads ts tree = Reads limits ts tree

-- A text that begins with these tokens is read, the limits aside.
abbrev pub Viable : {A : Type 0} → Language A → List Token → Type 0
Viable {A} Reads front = (more : List Token) × (tree : A) × Reads any (front ++ more) tree

-- The tokens up to this one begin a text of the grammar, and none in which this one stays within the limits.
abbrev pub PastLimits : {A : Type 0} → Language A → List Token → Token → SyntaxKind → Type 0
PastLimits {A} Reads before t kind =
    Viable Reads (before ++ t ∷ [])
    × ((after : List Token) (tree : A) → Reads (limit_at kind after) (before ++ t ∷ after) tree → ⊥)

-- what the grammar says against a token, whatever its bytes
abbrev pub GrammarRefuses : {A : Type 0} → Language A → List Token → Token → SyntaxKind → Type 0
GrammarRefuses Reads before t BadNumber = PastLimits Reads before t BadNumber
GrammarRefuses Reads before t TooDeep = PastLimits Reads before t TooDeep
GrammarRefuses Reads before t Ambiguous = PastLimits Reads before t Ambiguous
GrammarRefuses Reads before t Unexpected = Viable Reads (before ++ t ∷ []) → ⊥
GrammarRefuses Reads before t _ = ⊥

-- The rows of the refusal table, for a token and the tokens before it: it breaks this rule of tokens, or the grammar
-- has this against it.
abbrev pub Row : {A : Type 0} → Language A → List Token → Token → SyntaxKind → Type 0
Row Reads before t kind = (t.symbol ≡ Bad kind) ⊎ GrammarRefuses Reads before t kind

-- The order of the rows. TooLong and NotUtf8 are refusals of whole sources, and hold at no token of a text.
abbrev pub rank : SyntaxKind → ℕ
rank BadByte = 0
rank OpenText = 1
rank BadEscape = 2
rank BadNumber = 3
rank NameTooLong = 4
rank TextTooLong = 5
rank TooDeep = 6
rank Ambiguous = 7
rank TooLong = 8
rank NotUtf8 = 9
rank Unexpected = 10

-- the first row that holds at the token
pub record FirstRow {A : Type 0} (Reads : Language A) (before : List Token) (t : Token) (kind : SyntaxKind) : Type 0
  where
    pub holds : Row Reads before t kind
    pub earlier : (other : SyntaxKind) → rank other < rank kind → Row Reads before t other → ⊥

-- no row holds at any of these tokens
abbrev pub NoRow : {A : Type 0} → Language A → List Token → Type 0
NoRow Reads front = (before : List Token) (t : Token) (between : List Token) → front ≡ before ++ t ∷ between
    → (kind : SyntaxKind) → Row Reads before t kind → ⊥

-- The tokens are refused: the first at which a row holds has these tokens behind it, itself the first of them; none is
-- left where it is the end.
abbrev pub Refuses : {A : Type 0} → Language A → List Token → SyntaxKind → List Token → Type 0
Refuses {A} Reads ts kind [] = (kind ≡ Unexpected) × NoRow Reads ts × ((tree : A) → Reads any ts tree → ⊥)
Refuses Reads ts kind (t ∷ after) =
    (before : List Token) × (ts ≡ before ++ t ∷ after) × NoRow Reads before × FirstRow Reads before t kind

-- what the outcome of reading says of a whole text
pub data Answer (A : Type 0) : Type 0 where
  IsTree : A → Answer A
  Refused : SyntaxKind → List Token → Answer A

abbrev pub answer : {A : Type 0} → Outcome A → Answer A
answer (Took tree []) = IsTree tree
answer (Took tree (t ∷ rest)) = Refused (blame t.symbol) (t ∷ rest)
answer (Stop kind rest) = Refused kind rest

-- what an answer says of the tokens
abbrev pub Says : {A : Type 0} → Language A → List Token → Answer A → Type 0
Says Reads ts (IsTree tree) = HasTree Reads ts tree
Says Reads ts (Refused kind rest) = Refuses Reads ts kind rest
