-- When the run of an image agrees with what a typed function means: at all counts of the one and all numbers of steps of the other.
use Rattle.std.specs.Prelude.{◌≡◌, ◌≢◌, ℕ, ◌+◌, ◌*◌, ◌≤◌, List}
use Rattle.tl_base.specs.declared.ids.TypeId.{TypeId}
use Rattle.tl_base.specs.Outside.{IsFront}
use Rattle.terra_words.specs.Words.{fault_number, wrapped}
use Rattle.terra_words.specs.Runs.{End, Returned, Fault, Run, Over, number, output_of}
use Rattle.terra_types.specs.declared.types.TypeForm.{TypeForm}
use Rattle.terra_meaning.specs.Values.{width_of}
use Rattle.rv_machine.specs.declared.stops.Stop.{Stop}
use Rattle.rv_machine.specs.declared.stops.Stop.TheVariants as stops
use Rattle.rv_machine.specs.Machine.{Ran}
use Rattle.rv_select.specs.Shapes.{place_number}

-- A run of the machine ends as one of a function with this result type: its low bits are those of the value, or it failed in the same way
-- at the same place. So it never ends by a fault of the machine.
abbrev pub SameEnd : List TypeForm → TypeId → End → Stop → Type 0
SameEnd types result (Returned v) (stops.Returned x) = wrapped (width_of types result) x ≡ number v
SameEnd types result (Fault kind at) (stops.TerraFault k place) = (k ≡ fault_number kind) × (place ≡ place_number at)
SameEnd types result _ _ = ⊥

-- the same end, with the same output
abbrev pub EndsSo : (End → Stop → Type 0) → End → List ℕ → Ran → Type 0
EndsSo Same e out ran = Same e ran.stop × (ran.output ≡ out)

-- Runs by their counts, and runs by their numbers of steps, agree: a count, and the begin, takes at most as many steps as there are words.
pub record Agree (Same : End → Stop → Type 0) (source : ℕ → Run) (target : ℕ → Ran) (words : ℕ) : Type 0 where
  -- what ends at a count ends so after some steps, and these are few
  pub ends : (n : ℕ) (e : End) (out : List ℕ) → source n ≡ Over e out →
      (k : ℕ) × (k ≤ (n + 1) * words) × EndsSo Same e out (target k)
  -- what ends after so many steps ends so at that count
  pub ends_only : (k : ℕ) → (target k).stop ≢ stops.Unfinished →
      (e : End) × (source k ≡ Over e (target k).output) × Same e (target k).stop
  -- after so many steps nothing was written that isn't written at that count
  pub shows_no_more : (k : ℕ) → IsFront (target k).output (output_of (source k))
  -- what is written at a count is written after some steps, and these are few
  pub shows_all : (n : ℕ) → IsFront (output_of (source n)) (target ((n + 1) * words)).output
