-- A run more keeps one number of steps beside each.
use Rattle.std.proofs.Common.{◌≡◌, ℕ, List, [], ◌∷◌, ◌++◌, map}
use Rattle.stage_loop.specs.declared.runs.Run.{Run}
use Rattle.stage_loop.specs.Kept.{run_of, steps_of}
use Rattle.stage_loop.specs.Runs.{Took, AreSteps}

pub added : (memory : ℕ) (rs : List Run) (r : Run) → AreSteps memory (map run_of rs) (map steps_of rs) → Took memory (run_of r) (steps_of r) →
    AreSteps memory (map run_of (rs ++ r ∷ [])) (map steps_of (rs ++ r ∷ []))
added memory [] r all one = (one, tt)
added memory (x ∷ rs) r all one = (all.0, added memory rs r all.1 one)
