use Rattle.std.proofs.Common.{List, refl, ap, ◌∙◌}
use Rattle.tl_base.specs.declared.ids.NodeId.{NodeId}
use Rattle.tl_base.specs.Layer.{state}
use Rattle.tl_base.specs.Plan.{run}
use Rattle.lua_model.specs.Statements.{local_plan}
use Rattle.lua_eval.specs.declared.frame.Wait.TheVariants as waits
use Rattle.lua_eval.proofs.Below.{jobs_of}
use Rattle.lua_eval.proofs.Waited.{local_waits}
use Rattle.lua_eval.proofs.waiting.declaring.Goals as goal

pub returns-in-Some-clause-passes : goal.returns-in-Some-clause-passes
returns-in-Some-clause-passes c = λ items scope s later.
    let a = c.args in
    let node = c.in-Some.node in
    ap (λ (es : List NodeId). run (jobs_of items) (local_plan a.names.now es scope) (state s a.left) later) c.in-Some.ensures
    ∙ local_waits items (waits.Local a.names) a.names.now node scope s a.left (λ vs. refl) later
