use Rattle.std.proofs.Common.{List, ap, ◌∙◌, sym}
use Rattle.tl_base.specs.declared.ids.NodeId.{NodeId}
use Rattle.tl_base.specs.Layer.{state}
use Rattle.tl_base.specs.Plan.{run}
use Rattle.tl_tree.specs.Arena.{items_of}
use Rattle.lua_model.specs.Assignments.{assign_plan}
use Rattle.lua_model.specs.Statements.{local_plan}
use Rattle.lua_eval.proofs.AtOnce.{if-some}
use Rattle.lua_eval.proofs.Below.{jobs_of}
use Rattle.lua_eval.proofs.Waited.{call_waits}
use Rattle.lua_eval.proofs.waiting.begin_statement.Goals as goal

pub returns-in-Call-clause-passes : goal.returns-in-Call-clause-passes
returns-in-Call-clause-passes c = λ n place.
    let a = c.args in
    rw c.in-Call.is (call_waits (items_of a.tree.now) c.in-Call.call a.scope.now a.heap.now a.left)

pub returns-in-Local-clause-passes : goal.returns-in-Local-clause-passes
returns-in-Local-clause-passes c =
    let a = c.args in
    let m = c.in-Local in
    let items = items_of a.tree.now in
    let scope = a.scope.now in
    let s = a.heap.now in
    rw m.is (if-some c.declaring.result c.declaring.ensures.passes (λ begun h n place later.
    ap (λ (ns : List NodeId). run (jobs_of items) (local_plan ns m.values scope) (state s a.left) later) (sym c.as_slice-names.ensures)
    ∙ ap (λ (es : List NodeId). run (jobs_of items) (local_plan c.as_slice-names.result.now es scope) (state s a.left) later)
    (sym c.as_slice-values.ensures)
    ∙ h items scope s later))

pub returns-in-Assign-clause-passes : goal.returns-in-Assign-clause-passes
returns-in-Assign-clause-passes c =
    let a = c.args in
    let m = c.in-Assign in
    let items = items_of a.tree.now in
    let scope = a.scope.now in
    let s = a.heap.now in
    rw m.is (if-some c.storing.result c.storing.ensures.passes (λ begun h n place later.
    ap (λ (ns : List NodeId). run (jobs_of items) (assign_plan items ns m.values scope) (state s a.left) later) (sym c.as_slice-targets.ensures)
    ∙ ap (λ (es : List NodeId). run (jobs_of items) (assign_plan items c.as_slice-targets.result.now es scope) (state s a.left) later)
    (sym c.as_slice-values-in-Assign.ensures)
    ∙ h later))
