-- What the end of a staging owes.
use Rattle.std.specs.Prelude.{ℕ, List}
use Rattle.stage_model.specs.declared.staging.End.{End}
use Rattle.stage_model.specs.declared.staging.End.TheVariants.{Done, Raised, Spent}
use Rattle.terrac_call.specs.declared.status.Status.TheVariants as statuses
use Rattle.terrac_call.specs.Due.{Due, given, refused}

-- what a staging that ends so owes behind what was printed: these lines, or the line of the refusal
abbrev pub due_of_end : End → List ℕ → Due
due_of_end Done lines = given lines
due_of_end (Raised text place) lines = refused (statuses.Raised text place)
due_of_end Spent lines = refused statuses.BudgetSpent
