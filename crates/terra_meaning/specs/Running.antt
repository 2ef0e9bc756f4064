-- What running code has: its memory, its variables, the count that is left and its output; and how a run ends.
use Rattle.std.specs.Prelude.{ℕ, zero, suc, ◌-◌, nat_eq, if◌then◌else◌, List, [], ◌∷◌, length, drop, Option, Some, None}
use Rattle.tl_base.specs.declared.ids.SymId.{SymId}
use Rattle.tl_base.specs.declared.place.Place.{Place}
use Rattle.terra_memory.specs.Region.{Contents}
use Rattle.terra_words.specs.declared.words.FaultKind.{FaultKind}
use Rattle.terra_words.specs.Runs.{Run, Over, More, Fault, Stuck}

-- what a variable is: a word, or an address at which it lies
pub data Held : Type 0 where
  held : (value : ℕ) → Held
  lies : (address : ℕ) → Held

-- A variable in scope.
pub record Variable : Type 0 where
  pub symbol : SymId
  pub is : Held

-- A running program: the variables in scope of the function that runs, the nearest first; the region; how many calls
-- and turns may still begin; and the output so far.
pub record State : Type 0 where
  pub variables : List Variable
  pub region : Contents
  pub left : ℕ
  pub out : List ℕ

-- what a part of a program gives: something and the state then, or the run's end
pub data Got (A : Type 0) : Type 0 where
  Gives : A → State → Got A
  Ends : Run → Got A

-- what follows a part that gives something
abbrev pub next : {A B : Type 0} → Got A → (A → State → Got B) → Got B
next (Gives x s) go = go x s
next (Ends r) go = Ends r

abbrev pub fault : {A : Type 0} → FaultKind → Place → State → Got A
fault kind at s = Ends (Over (Fault kind at) s.out)

abbrev pub stuck : {A : Type 0} → State → Got A
stuck s = Ends (Over Stuck s.out)

abbrev pub need_more : {A : Type 0} → State → Got A
need_more s = Ends (More s.out)

abbrev pub counted_from : {A : Type 0} → ℕ → State → (State → Got A) → Got A
counted_from zero s go = need_more s
counted_from (suc left) s go = go (record s { left = left })

-- a call, or a turn after which a loop goes on: it takes one from the count
abbrev pub counted : {A : Type 0} → State → (State → Got A) → Got A
counted s go = counted_from s.left s go

-- a scope is left: of the variables only so many stay, the outermost
abbrev pub leaving : {A : Type 0} → ℕ → Got A → Got A
leaving n (Gives x s) = Gives x (record s { variables = drop (length s.variables - n) s.variables })
leaving n (Ends r) = Ends r

abbrev pub scoped : {A : Type 0} → State → Got A → Got A
scoped s got = leaving (length s.variables) got

abbrev pub with_variable : SymId → Held → State → State
with_variable x is s = record s { variables = record { symbol = x; is = is } ∷ s.variables }

-- the nearest variable of a symbol
abbrev pub find : SymId → List Variable → Option Held
find x [] = None
find x (v ∷ vs) = if nat_eq x.0 v.symbol.0 then Some v.is else find x vs

abbrev pub found : SymId → State → Option Held
found x s = find x s.variables

abbrev pub set : SymId → Held → List Variable → List Variable
set x is [] = []
set x is (v ∷ vs) = if nat_eq x.0 v.symbol.0 then record v { is = is } ∷ vs else v ∷ set x is vs

abbrev pub with_value : SymId → ℕ → State → State
with_value x value s = record s { variables = set x (held value) s.variables }
