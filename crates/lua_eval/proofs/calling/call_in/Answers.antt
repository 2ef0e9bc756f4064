use Rattle.std.proofs.Common.{List, ap, ◌∙◌, sym}
use Rattle.tl_base.specs.declared.ids.NodeId.{NodeId}
use Rattle.tl_base.specs.Layer.{state}
use Rattle.tl_base.specs.Plan.{run}
use Rattle.tl_tree.specs.Arena.{items_of}
use Rattle.lua_model.specs.Expressions.{call_plan}
use Rattle.lua_eval.proofs.AtOnce.{if-some}
use Rattle.lua_eval.proofs.Below.{jobs_of}
use Rattle.lua_eval.proofs.calling.call_in.Goals as goal

pub returns-in_ok-called-in-Call-clause-passes : goal.returns-in_ok-called-in-Call-clause-passes
returns-in_ok-called-in-Call-clause-passes c =
    let a = c.args in
    let m = c.in-Call in
    let items = items_of a.tree.now in
    rw m.is (if-some c.in_ok-called-in-Call.called c.in_ok-called-in-Call.ensures.passes (λ called h n later.
    ap (λ (ns : List NodeId). run (jobs_of items) (call_plan items m.function ns a.place a.scope.now) (state a.heap.now a.left) later)
    (sym c.as_slice-arguments.ensures)
    ∙ h later))
