use Rattle.std.proofs.Common.{List, ap, ◌∙◌, sym}
use Rattle.tl_base.specs.declared.ids.NodeId.{NodeId}
use Rattle.tl_base.specs.Layer.{state}
use Rattle.tl_base.specs.Plan.{run}
use Rattle.tl_tree.specs.Arena.{items_of}
use Rattle.lua_model.specs.Assignments.{assign_plan}
use Rattle.lua_model.specs.Statements.{local_plan}
use Rattle.lua_eval.proofs.Below.{jobs_of}
use Rattle.lua_eval.proofs.running.assigned_by.Goals as goal

pub returns-in_ok-done-in-Assign-clause-done : goal.returns-in_ok-done-in-Assign-clause-done
returns-in_ok-done-in-Assign-clause-done c = λ is n place later.
    let a = c.args in
    let m = c.in-Assign in
    let items = items_of a.tree.now in
    let scope = a.scope.now in
    let s = a.heap.now in
    rw m.is (ap (λ (ns : List NodeId). run (jobs_of items) (assign_plan items ns m.values scope) (state s a.left) later)
    (sym c.as_slice-targets.ensures)
    ∙ ap (λ (es : List NodeId). run (jobs_of items) (assign_plan items c.as_slice-targets.result.now es scope) (state s a.left) later)
    (sym c.as_slice-values.ensures)
    ∙ c.in_ok-done-in-Assign.ensures.done is later)

pub returns-in_ok-done-in-Local-clause-done : goal.returns-in_ok-done-in-Local-clause-done
returns-in_ok-done-in-Local-clause-done c = λ is n place later.
    let a = c.args in
    let m = c.in-Local in
    let items = items_of a.tree.now in
    let scope = a.scope.now in
    let s = a.heap.now in
    rw m.is (ap (λ (ns : List NodeId). run (jobs_of items) (local_plan ns m.values scope) (state s a.left) later)
    (sym c.as_slice-names.ensures)
    ∙ ap (λ (es : List NodeId). run (jobs_of items) (local_plan c.as_slice-names.result.now es scope) (state s a.left) later)
    (sym c.as_slice-values-in-Local.ensures)
    ∙ c.in_ok-done-in-Local.ensures.done is later)
