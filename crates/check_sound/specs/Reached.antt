-- What a check reached, as a store of its own.
use Rattle.std.specs.Prelude.{◌≡◌, ℕ, suc, true, List, [], ◌∷◌, Some, if◌then◌else◌}
use Rattle.tl_base.specs.declared.ids.FnId.{FnId}
use Rattle.terra_term.specs.declared.store.Function.{Function}
use Rattle.terra_term.specs.declared.store.FunctionState.TheVariants.{Undefined}
use Rattle.terra_term.specs.Stores.{Contents, Callable, callable_of, contents_of}
use Rattle.terra_term.specs.WellTyped.{body_typed}
use Rattle.exotype.specs.World.{StageState}
use Rattle.check_model.specs.declared.job.Reached.{Reached}
use Rattle.check_model.specs.Checks.{was_reached}
use Rattle.check_model.specs.Sound.{IsSound, IsReady}

-- a function that wasn't reached is there, and isn't defined
abbrev pub unreached : Function → Function
unreached g = record g { state = Undefined }

abbrev pub reached_from : ℕ → List Reached → List Function → List Function
reached_from n queue [] = []
reached_from n queue (g ∷ gs) =
    (if was_reached (record { 0 = n }) queue then g else unreached g) ∷ reached_from (suc n) queue gs

abbrev pub only_reached : List Reached → Contents → Contents
only_reached queue c = record c { functions = reached_from 0 queue c.functions }

-- The law: where what was reached is ready, it is called as in the whole store, and a store with it alone is typed.
abbrev pub ReachedStoresAreTyped : Type 0
ReachedStoresAreTyped =
    (w : StageState) (queue : List Reached) → IsSound w → ((g : FnId) → was_reached g queue ≡ true → IsReady w queue g) →
    ((g : FnId) → was_reached g queue ≡ true →
    callable_of (only_reached queue (contents_of w.store)) g ≡ callable_of (contents_of w.store) g) ×
    ((g : FnId) (k : Callable) → callable_of (only_reached queue (contents_of w.store)) g ≡ Some k →
    body_typed (only_reached queue (contents_of w.store)) k.body ≡ true)
