use Rattle.std.proofs.Common.{ℕ, List, [], ◌∷◌, ◌++◌, ap, ap₂, ◌∙◌}
use Rattle.exotype.specs.World.{StageState}
use Rattle.stage_model.specs.World.{TerraRun}
use Rattle.stage_model.specs.Calls.{with_output}
use Rattle.stage_loop.specs.Calls.{staged}
use Rattle.stage_loop.specs.Kept.{KeptRuns}
use Rattle.stage_loop.proofs.world.run_in.Goals as goal

pub returns-clause-ran : goal.returns-clause-ran
returns-clause-ran c = λ variables.
    let a = c.args in
    let out = c.in_ok-ran.ran.output in
    let world = c.in_ok-print.ensures.ok ∙ ap (λ (bytes : List ℕ). with_output a.world.now bytes) c.as_slice.ensures in
    let runs =
    ap (λ (k : KeptRuns). k.list) c.in_ok-add.ensures
    ∙ ap (λ (w : StageState). a.runs.now.list ++ record { store = w.store; function = a.f; arguments = a.words.now; units = a.units } ∷ [])
    c.world.view_is in
    record {
      out = out;
      new_is = ap₂ (λ (w : StageState) (list : List TerraRun). staged w variables list) world runs;
      ends = c.in_ok-ran.ensures.ends;
    }
