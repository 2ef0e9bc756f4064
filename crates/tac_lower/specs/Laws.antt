-- What is promised of lowered code: that it runs as its terms do, at every count, and that machine code can be made of it.
use Rattle.std.specs.Prelude.{◌≡◌, ℕ, ◌<◌, ◌≤◌, ◌/◌, ◌^◌, true, List, length, Some, option_map}
use Rattle.tl_base.specs.declared.ids.FnId.{FnId}
use Rattle.terra_memory.specs.Region.{IsMemorySize}
use Rattle.terra_words.specs.Runs.{Value, Run}
use Rattle.terra_types.specs.Opening.{AreTypes}
use Rattle.terra_term.specs.Stores.{Callable, Contents, callable_of, static_bytes}
use Rattle.terra_term.specs.Sizes.{body_size}
use Rattle.terra_term.specs.WellTyped.{body_typed}
use Rattle.terra_meaning.specs.Values.{AreValues}
use Rattle.terra_meaning.specs.Meaning.{meaning}
use Rattle.tac_form.specs.declared.tac.Tac.{Tac}
use Rattle.tac_lower.specs.Lowering.{are_narrow, parameter_types}
use Rattle.tac_form.specs.Flow.{Program, TacRun}
use Rattle.tac_form.specs.Weights.{Sized}
use Rattle.tac_form.specs.Fits.{Counted, Fits, most_nodes, place_fits}

-- every function of a store that can be called is typed
abbrev pub AreTyped : Contents → Type 0
AreTyped store = (f : FnId) (k : Callable) → callable_of store f ≡ Some k → body_typed store k.body ≡ true

-- a program has the code of each function, as lowering makes it
abbrev pub AreLowered : (Contents → List FnId → Callable → Tac) → Contents → Program → Type 0
AreLowered lowered store p = (f : FnId) → p.code f ≡ option_map (lowered store p.entries) (callable_of store f)

-- a run, and no other
pub record HasRun (p : Program) (statics : List ℕ) (memory n : ℕ) (f : FnId) (arguments : List Value) (r : Run) : Type 0 where
  pub runs : TacRun p statics memory n f arguments r
  pub alone : (q : Run) → TacRun p statics memory n f arguments q → q ≡ r

-- the code of a store's functions has the runs of their terms, at every count; parameters have at most the bytes that values have
abbrev pub LoweringKeepsRuns : (Contents → List FnId → Callable → Tac) → Type 0
LoweringKeepsRuns lowered =
    (store : Contents) (p : Program) → AreTypes store.types → AreTyped store → length p.entries < 2 ^ 32 → AreLowered lowered store p →
    (memory n : ℕ) (f : FnId) (k : Callable) (arguments : List Value) →
    IsMemorySize memory → length (static_bytes store) ≤ memory / 2 →
    callable_of store f ≡ Some k → are_narrow store.types (parameter_types k) ≡ true →
    AreValues store.types k.body.parameters arguments →
    HasRun p (static_bytes store) memory n f arguments (meaning store p.entries memory n f arguments)

-- each way round the flow graph of the code counts
abbrev pub LoweredIsCounted : (Contents → List FnId → Callable → Tac) → Type 0
LoweredIsCounted lowered =
    (store : Contents) (entries : List FnId) (k : Callable) → AreTypes store.types → length entries < 2 ^ 32 →
    body_typed store k.body ≡ true → Counted (lowered store entries k)

-- machine code of the code keeps within what a function of so many typed nodes may take
abbrev pub LoweredIsSized : (Contents → List FnId → Callable → Tac) → Type 0
LoweredIsSized lowered =
    (store : Contents) (entries : List FnId) (k : Callable) → AreTypes store.types → body_typed store k.body ≡ true →
    Sized (lowered store entries k)

-- what each function's code keeps
pub record IsGood (code : Tac) : Type 0 where
  pub fits : Fits code
  pub counted : Counted code
  pub sized : Sized code

abbrev pub LoweredIsGood : (Contents → List FnId → Callable → Tac) → Type 0
LoweredIsGood lowered =
    (store : Contents) (entries : List FnId) (k : Callable) → AreTypes store.types → length entries < 2 ^ 32 →
    place_fits k.at ≡ true → (body_size k.body).nodes ≤ most_nodes → body_typed store k.body ≡ true →
    IsGood (lowered store entries k)

-- what the code made of a function keeps, where the function is typed and has a place in a text and no more nodes than are compiled at once
abbrev pub GoodWhereTyped : Contents → List FnId → FnId → Tac → Type 0
GoodWhereTyped store entries f code =
    (k : Callable) → callable_of store f ≡ Some k → AreTypes store.types → length entries < 2 ^ 32 →
    place_fits k.at ≡ true → (body_size k.body).nodes ≤ most_nodes → body_typed store k.body ≡ true → IsGood code
