-- Which tokens a grammar reads, and as which value.
use Rattle.std.specs.Prelude.{◌≡◌, ℕ, zero, suc, Bool, true, false, List, [], ◌∷◌, ◌⊎◌, Option, Some, None}
use Rattle.tl_tree.specs.Tokens.{Token}
use Rattle.tl_tree.specs.Tree.{Tree, Nothing, Part}
use Rattle.tl_tree.specs.Notation.{Use, is_of, begins, Grammar, give, token, bind, when, many, Table, down, all_levels}

-- May a token, here with all that follow it, be put to this use?
abbrev pub Rule : Type 0
Rule = Use → List Token → Bool

-- which tokens a part reads, up to the rest
abbrev pub Parts : Type 1
Parts = Part → List Token → Tree → List Token → Type 0

-- what a token opens
abbrev pub Opened : Parts → Option Part → List Token → Tree → List Token → Type 0
Opened parts None ts x rest = (x ≡ Nothing) × (rest ≡ ts)
Opened parts (Some part) ts x rest = parts part ts x rest

-- the turns of a repetition: it goes on as long as it can
pub data Turns {A : Type 0} (class : A → Token → Bool) (Turn : A → Token → List Token → A → List Token → Type 0)
    : A → List Token → A → List Token → Type 0 where
  stop : {a : A} {ts : List Token} → begins (class a) ts ≡ false → Turns class Turn a ts a ts
  turn : {a x b : A} {t : Token} {ts mid rest : List Token} → is_of (class a) t ≡ true → Turn a t ts x mid
      → Turns class Turn x mid b rest → Turns class Turn a (t ∷ ts) b rest

-- The grammar reads the tokens up to the rest, as this value. So many levels are left.
abbrev pub Reads : {A : Type 0} → Rule → ℕ → Parts → Grammar A → List Token → A → List Token → Type 0
Reads rule levels parts (give a) ts b rest = (b ≡ a) × (rest ≡ ts)
Reads rule levels parts (token class usage opens sample) ts b rest =
    (inner : List Token) × (ts ≡ b.0 ∷ inner) × (is_of class b.0 ≡ true)
    × (rule (record { opens = opens b.0; levels = levels; usage = usage b.0 }) ts ≡ true)
    × Opened parts (opens b.0) inner b.1 rest
Reads rule levels parts (bind {A} g h) ts b rest =
    (a : A) × (mid : List Token) × Reads rule levels parts g ts a mid × Reads rule levels parts (h a) mid b rest
Reads rule levels parts (when class g h) ts b rest =
    ((begins class ts ≡ true) × Reads rule levels parts g ts b rest)
    ⊎ ((begins class ts ≡ false) × Reads rule levels parts h ts b rest)
Reads rule levels parts (many class usage opens step a) ts b rest =
    Turns class
    (λ a t inner y next.
    (rule (record { opens = opens a t; levels = levels; usage = usage a t }) (t ∷ inner) ≡ true) × (x : Tree)
    × (mid : List Token) × Opened parts (opens a t) inner x mid × Reads rule levels parts (step t x a) mid y next)
    a ts b rest

-- ---- parts within parts

-- which tokens the parts read that nest at most so deep, with so many levels left
abbrev pub parts_at : Table → Rule → ℕ → ℕ → Parts
parts_at table rule zero levels part ts tree rest = ⊥
parts_at table rule (suc depth) levels part ts tree rest =
    Reads rule levels (parts_at table rule depth (down levels)) (table part) ts tree rest

-- Under a rule the tokens are a whole text, of this tree.
abbrev pub Whole : Table → Part → Rule → List Token → Tree → Type 0
Whole table part rule ts tree = (depth : ℕ) × parts_at table rule depth all_levels part ts tree []
