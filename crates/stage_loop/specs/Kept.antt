-- Runs as a staging keeps them: with the memory of the program, and beside each run the steps that its image took.
use Rattle.std.specs.Prelude.{ℕ, List}
use Rattle.stage_model.specs.World.{TerraRun}
use Rattle.stage_loop.specs.declared.runs.Run.{Run}

pub record KeptRuns : Type 0 where
  pub memory : ℕ
  pub list : List TerraRun

abbrev pub run_of : Run → TerraRun
run_of r = record { store = r.store.value; function = r.function; arguments = r.arguments.value; units = r.units }

abbrev pub steps_of : Run → ℕ
steps_of r = r.steps
