use Rattle.std.proofs.Common.{◌≡◌, List, ap, ◌∙◌}
use Rattle.tl_base.specs.declared.ids.NodeId.{NodeId}
use Rattle.tl_base.specs.Layer.{state}
use Rattle.tl_base.specs.Plan.{run}
use Rattle.tl_tree.specs.Arena.{items_of}
use Rattle.lua_table.proofs.Keeping.{keeps_then}
use Rattle.lua_model.specs.Plans.{statements}
use Rattle.lua_eval.proofs.Below.{jobs_of}
use Rattle.lua_eval.proofs.Reached.{statement_passes}
use Rattle.lua_eval.proofs.running.flat.Goals as goal

pub returns-then-not-branch-clause-passes : goal.returns-then-not-branch-clause-passes
returns-then-not-branch-clause-passes c = λ out go later.
    let heap : c.assigned.new.heap ≡ c.flat.heap = c.in_ok-assigned-in-Some.ensures.heap c.if-not-branch.true in
    let left : c.assigned.new.budget ≡ c.flat.budget = c.in_ok-assigned-in-Some.ensures.budget c.if-not-branch.true in
    rw heap (rw left (c.flat.invariant.passes out go later))

pub returns-then-not-branch-clause-kept : goal.returns-then-not-branch-clause-kept
returns-then-not-branch-clause-kept c =
    keeps_then c.args.heap.now c.flat.heap c.assigned.new.heap c.flat.invariant.kept c.in_ok-assigned-in-Some.ensures.kept

pub flat-preserved : goal.flat-preserved
flat-preserved c =
    let a = c.args in
    let l = c.flat in
    let items = items_of a.tree.now in
    let scope = a.scope.now in
    let n = c.in-Some.first.now in
    let behind = c.in-Some.behind.now in
    let s = l.heap in
    let t = c.assigned.new.heap in
    let mid = c.assigned.new.budget in
    record {
      passes = λ out go later.
          l.invariant.passes out go later
          ∙ ap (λ (ns : List NodeId). run (jobs_of items) (statements ns scope out go) (state s l.budget) later) c.in-Some.ensures.cases.0
          ∙ statement_passes items n behind scope out go s t l.budget mid (c.in_ok-assigned-in-Some.ensures.done c.if-not-branch.false) later;
      kept = keeps_then a.heap.now s t l.invariant.kept c.in_ok-assigned-in-Some.ensures.kept;
    }
