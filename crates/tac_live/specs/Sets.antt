-- Sets of temporaries as flags, and what is live at the places of a block.
use Rattle.std.specs.Prelude.{◌≡◌, ℕ, ◌<◌, Bool, true, false, List, [], ◌∷◌, length}
use Rattle.std.specs.Prelude.{drop, Option, Some, None, slice_set, slice_index_or}
use Rattle.tac_form.specs.declared.graph.Step.{Step}
use Rattle.tac_form.specs.declared.graph.FlowBlock.{FlowBlock}
use Rattle.tac_form.specs.Live.{before_step, before_exit}

abbrev pub at : List Bool → ℕ → Bool
at xs t = slice_index_or xs t false

abbrev pub marked : List ℕ → List Bool → List Bool
marked [] xs = xs
marked (t ∷ ts) xs = marked ts (slice_set xs t true)

abbrev pub unmarked : Option ℕ → List Bool → List Bool
unmarked None xs = xs
unmarked (Some d) xs = slice_set xs d false

abbrev pub with_written : Option ℕ → List Bool → List Bool
with_written None xs = xs
with_written (Some d) xs = slice_set xs d true

abbrev pub set_before : Step → List Bool → List Bool
set_before s xs = marked s.reads (unmarked s.write xs)

-- flags of so many temporaries, by a test
pub record IsSet (xs : List Bool) (count : ℕ) (test : ℕ → Bool) : Type 0 where
  pub long : length xs ≡ count
  pub holds : (t : ℕ) → t < count → at xs t ≡ test t

-- what is live before steps, by what is live after them
abbrev pub before_steps : List Step → Bool → ℕ → Bool
before_steps [] after t = after
before_steps (s ∷ ss) after t = before_step s (before_steps ss after t) t

-- what is live at a place of a block, by what is live where blocks begin
abbrev pub before_from : FlowBlock → (from : ℕ) → (begins : ℕ → Bool) → ℕ → Bool
before_from block from begins t = before_steps (drop from block.steps) (before_exit block begins t) t
