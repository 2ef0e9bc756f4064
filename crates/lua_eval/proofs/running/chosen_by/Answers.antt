use Rattle.std.proofs.Common.{List, ap, ◌∙◌, sym}
use Rattle.tl_base.specs.declared.ids.NodeId.{NodeId}
use Rattle.tl_base.specs.Layer.{state}
use Rattle.tl_base.specs.Plan.{run}
use Rattle.tl_tree.specs.Arena.{items_of}
use Rattle.lua_model.specs.Statements.{arms_plan}
use Rattle.lua_eval.proofs.AtOnce.{if-some}
use Rattle.lua_eval.proofs.Below.{jobs_of}
use Rattle.lua_eval.proofs.running.chosen_by.Goals as goal

pub returns-in_ok-entered-in-If-clause-passes : goal.returns-in_ok-entered-in-If-clause-passes
returns-in_ok-entered-in-If-clause-passes c =
    let a = c.args in
    let m = c.in-If in
    let items = items_of a.tree.now in
    rw m.is (if-some c.in_ok-entered-in-If.entered c.in_ok-entered-in-If.ensures.passes (λ entered h n place later.
    ap (λ (ns : List NodeId). run (jobs_of items) (arms_plan items ns m.otherwise a.scope.now) (state a.heap.now a.left) later)
    (sym c.as_slice-list.ensures)
    ∙ h later))
