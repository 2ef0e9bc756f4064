-- What typing promises of runs: they are never stuck, and what they give back is a value of the function's result type.
use Rattle.std.specs.Prelude.{◌≡◌, ◌≢◌, ℕ, ◌<◌, ◌≤◌, ◌/◌, ◌^◌, true, List, length, Some}
use Rattle.tl_base.specs.declared.ids.FnId.{FnId}
use Rattle.terra_memory.specs.Region.{IsMemorySize}
use Rattle.terra_words.specs.Runs.{Value, Returned, Stuck, Over}
use Rattle.terra_types.specs.Opening.{AreTypes}
use Rattle.terra_term.specs.Stores.{Callable, Contents, callable_of, static_bytes}
use Rattle.terra_meaning.specs.Values.{AreValues, IsValue}
use Rattle.terra_meaning.specs.Meaning.{meaning}
use Rattle.tac_lower.specs.Laws.{AreTyped}
use Rattle.tac_lower.specs.Lowering.{are_narrow, parameter_types}

-- where every function that can be called is typed, no run of one is stuck, whatever its arguments
abbrev pub TypedRunsAreNotStuck : Type 0
TypedRunsAreNotStuck =
    (store : Contents) (entries : List FnId) (memory n : ℕ) (f : FnId) (k : Callable) (arguments : List Value) (out : List ℕ) →
    AreTyped store → callable_of store f ≡ Some k → meaning store entries memory n f arguments ≢ Over Stuck out

-- a function that is given values of its parameters' types gives back a value of its result type
abbrev pub TypedRunsGiveValues : Type 0
TypedRunsGiveValues =
    (store : Contents) (entries : List FnId) (memory n : ℕ) (f : FnId) (k : Callable) (arguments : List Value) (v : Value)
    (out : List ℕ) →
    AreTypes store.types → AreTyped store → length entries < 2 ^ 32 →
    IsMemorySize memory → length (static_bytes store) ≤ memory / 2 →
    callable_of store f ≡ Some k → are_narrow store.types (parameter_types k) ≡ true →
    AreValues store.types k.body.parameters arguments →
    meaning store entries memory n f arguments ≡ Over (Returned v) out → IsValue store.types k.body.result v
