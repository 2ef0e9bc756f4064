use Rattle.std.proofs.Common.{List, ap, ◌∙◌}
use Rattle.tl_base.specs.declared.ids.NodeId.{NodeId}
use Rattle.tl_base.specs.Layer.{state}
use Rattle.tl_base.specs.Plan.{run}
use Rattle.tl_tree.specs.Arena.{items_of}
use Rattle.lua_model.specs.Statements.{local_plan}
use Rattle.lua_eval.proofs.Below.{jobs_of}
use Rattle.tl_base.proofs.Results.{if-ok}
use Rattle.lua_eval.proofs.running.local_at_once.Goals as goal

pub returns-in-Some-clause-done : goal.returns-in-Some-clause-done
returns-in-Some-clause-done c =
    let a = c.args in
    let items = items_of a.tree.now in
    if-ok c.one_local.result c.one_local.ensures.done (λ done h is later.
    ap (λ (es : List NodeId). run (jobs_of items) (local_plan a.names.now es a.scope.now) (state a.heap.now a.left) later) c.in-Some.ensures
    ∙ h is later)
