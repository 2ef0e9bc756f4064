-- What runs depend on, and what counts do to them.
use Rattle.std.specs.Prelude.{◌≡◌, ℕ, ◌≤◌, ◌<◌, Bool, true, false, List, ◌++◌, map, Option, Some, None, slice_get}
use Rattle.tl_base.specs.declared.place.Place.{Place}
use Rattle.tl_base.specs.declared.ids.FnId.{FnId}
use Rattle.tl_base.specs.declared.ids.SymId.{SymId}
use Rattle.terra_words.specs.Runs as runs
use Rattle.terra_words.specs.Runs.{Value, Run, More}
use Rattle.terra_term.specs.Events.{body_events, mentions_in}
use Rattle.terra_meaning.specs.Running.{Held, held, lies, Variable, State, Got, Gives, Ends}
use Rattle.terra_meaning.specs.Meaning.{Call}
use Rattle.terra_term.specs.Stores.{Contents, Callable, callable_of, static_bytes}

abbrev pub needs_more : Run → Bool
needs_more (runs.Over e out) = false
needs_more (More out) = true

-- Runs by their counts need a count: they are over at it, are the same at each larger one, and need more at each
-- smaller one.
pub record Need (run : ℕ → Run) (count : ℕ) : Type 0 where
  pub ends : needs_more (run count) ≡ false
  pub same : (larger : ℕ) → count ≤ larger → run larger ≡ run count
  pub less : (smaller : ℕ) → smaller < count → needs_more (run smaller) ≡ true

-- The functions that a run of a function can reach: itself, those that stand as values, and those that they mention.
pub data Reaches (store : Contents) (entries : List FnId) (f : FnId) : FnId → Type 0 where
  itself : Reaches store entries f f
  value : (i : ℕ) (g : FnId) → slice_get entries i ≡ Some g → Reaches store entries f g
  mentioned : (g h : FnId) (i : ℕ) (at : Place) (k : Callable) → Reaches store entries f g →
      callable_of store g ≡ Some k →
      slice_get (mentions_in (body_events k.body)) i ≡ Some (at, h) → Reaches store entries f h

-- Two stores that are alike for a function: they have the same types and statics, and the functions that it reaches
-- have the same places and typed terms.
pub record AreAlike (entries : List FnId) (f : FnId) (a b : Contents) : Type 0 where
  pub types : a.types ≡ b.types
  pub statics : static_bytes a ≡ static_bytes b
  pub reached : (g : FnId) → Reaches a entries f g → callable_of a g ≡ callable_of b g

-- A variable's symbol, and its address if it has one.
pub record Shape : Type 0 where
  pub symbol : SymId
  pub place : Option ℕ

abbrev pub address_in : Held → Option ℕ
address_in (held word) = None
address_in (lies address) = Some address

abbrev pub shape_of : Variable → Shape
shape_of v = record { symbol = v.symbol; place = address_in v.is }

-- variables but for their values
abbrev pub shape : List Variable → List Shape
shape vs = map shape_of vs

-- what a part gives has these variables in scope
abbrev pub Has : {A : Type 0} → List Shape → Got A → Type 0
Has these (Gives a t) = shape t.variables ≡ these
Has these (Ends r) = Unit {0}

-- these variables, the outermost, and others that are nearer
abbrev pub Over : List Shape → List Shape → Type 0
Over these all = (nearer : List Shape) × (all ≡ nearer ++ these)

abbrev pub HasUnder : {A : Type 0} → List Shape → Got A → Type 0
HasUnder these (Gives a t) = Over these (shape t.variables)
HasUnder these (Ends r) = Unit {0}

-- a part leaves the variables in scope, but for their values; or it does so and declares more
abbrev pub Keeps : {A : Type 0} → (State → Got A) → Type 0
Keeps go = (s : State) → Has (shape s.variables) (go s)

abbrev pub Adds : {A : Type 0} → (State → Got A) → Type 0
Adds go = (s : State) → HasUnder (shape s.variables) (go s)

-- a call leaves its caller's variables
abbrev pub CallsKeep : Call → Type 0
CallsKeep c = (f : FnId) (vs : List Value) (at : Place) → Keeps (c.call f vs at)
