-- What reading from left to right gives: a value and the tokens behind it, or the refusal of one token.
use Rattle.std.specs.Prelude.{ℕ, zero, suc, Bool, List, [], ◌∷◌, length, if◌then◌else◌, Option, Some, None}
use Rattle.tl_lex.specs.declared.SyntaxKind.{SyntaxKind}
use Rattle.tl_lex.specs.declared.SyntaxKind.TheVariants as why
use Rattle.tl_tree.specs.declared.symbol.Symbol.{Symbol}
use Rattle.tl_tree.specs.declared.symbol.Symbol.TheVariants as symbols
use Rattle.tl_tree.specs.Tokens.{Token}
use Rattle.tl_tree.specs.Tree.{Tree, Nothing, Part}
use Rattle.tl_tree.specs.Notation.{bar, is_of, begins, Grammar, give, token, bind, when, many, Table}

pub data Outcome (A : Type 0) : Type 0 where
  -- a value, and the tokens after it
  Took : A → List Token → Outcome A
  -- the refusal of the first of these tokens, or of the end where there is none
  Stop : SyntaxKind → List Token → Outcome A

infixl 10 ◌>>=◌
abbrev pub ◌>>=◌ : {A B : Type 0} → Outcome A → (A → List Token → Outcome B) → Outcome B
(Took a rest) >>= f = f a rest
(Stop kind rest) >>= f = Stop kind rest

abbrev pub blame : Symbol → SyntaxKind
blame (symbols.Bad kind) = kind
blame _ = why.Unexpected

-- the refusal of the next token, which the grammar does not take
abbrev pub unexpected : {A : Type 0} → List Token → Outcome A
unexpected [] = Stop why.Unexpected []
unexpected (t ∷ ts) = Stop (blame t.symbol) (t ∷ ts)

-- what comes of a token that is of the class, where the limits allow its use
abbrev pub unless : {A : Type 0} → Option SyntaxKind → List Token → Outcome A → Outcome A
unless None ts next = next
unless (Some kind) ts next = Stop kind ts

-- what reading a part gives
abbrev pub Readers : Type 0
Readers = Part → List Token → Outcome Tree

abbrev pub opened : Readers → Option Part → List Token → Outcome Tree
opened readers None ts = Took Nothing ts
opened readers (Some part) ts = readers part ts

abbrev pub turns : {A : Type 0} → ℕ → (A → Token → Bool) → (A → Token → Option SyntaxKind)
    → (A → Token → List Token → Outcome A) → A → List Token → Outcome A
turns fuel class bars step a [] = Took a []
turns zero class bars step a (t ∷ ts) = Took a (t ∷ ts)
turns (suc fuel) class bars step a (t ∷ ts) =
    if is_of (class a) t then unless (bars a t) (t ∷ ts) (step a t ts >>= λ x mid. turns fuel class bars step x mid)
    else Took a (t ∷ ts)

abbrev pub run : {A : Type 0} → ℕ → Readers → Grammar A → List Token → Outcome A
run levels readers (give a) ts = Took a ts
run levels readers (token class usage opens sample) [] = Stop why.Unexpected []
run levels readers (token class usage opens sample) (t ∷ ts) =
    if is_of class t then
    unless (bar (record { opens = opens t; levels = levels; usage = usage t }) t) (t ∷ ts)
    (opened readers (opens t) ts >>= λ x rest. Took (t, x) rest)
    else Stop (blame t.symbol) (t ∷ ts)
run levels readers (bind g h) ts = run levels readers g ts >>= λ a mid. run levels readers (h a) mid
run levels readers (when class g h) ts = if begins class ts then run levels readers g ts else run levels readers h ts
run levels readers (many class usage opens step a) ts =
    turns (length ts) class (λ a t. bar (record { opens = opens a t; levels = levels; usage = usage a t }) t)
    (λ a t inner. opened readers (opens a t) inner >>= λ x mid. run levels readers (step t x a) mid) a ts

-- ---- parts within parts

-- what reading a part gives, with so many levels left; where none is left, no token opens a part
abbrev pub readers_at : Table → ℕ → Readers
readers_at table zero part ts = run zero (λ inner us. unexpected us) (table part) ts
readers_at table (suc levels) part ts = run (suc levels) (λ inner us. readers_at table levels inner us) (table part) ts

-- what opens a part gives, with so many levels left around it
abbrev pub below : Table → ℕ → Readers
below table zero part ts = unexpected ts
below table (suc levels) part ts = readers_at table levels part ts
