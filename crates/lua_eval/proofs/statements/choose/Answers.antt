use Rattle.std.proofs.Common.{List, true, false, sym, ap, ◌∙◌}
use Rattle.tl_base.specs.declared.ids.NodeId.{NodeId}
use Rattle.tl_base.specs.Layer.{state}
use Rattle.tl_base.specs.Plan.{run}
use Rattle.tl_tree.specs.Arena.{items_of}
use Rattle.lua_model.specs.declared.job.Job.TheVariants as jobs
use Rattle.lua_model.specs.declared.end.End.TheVariants.{One}
use Rattle.lua_model.specs.Statements.{arms_plan}
use Rattle.lua_eval.specs.AtOnce.{EndsAtOnce}
use Rattle.lua_eval.proofs.Below.{jobs_of}
use Rattle.lua_eval.proofs.Choosing.{arm_passes}
use Rattle.lua_eval.proofs.statements.choose.Goals as goal

pub returns-in-None-at_once-clause-passes : goal.returns-in-None-at_once-clause-passes
returns-in-None-at_once-clause-passes c = λ later.
    rw c.in-None-at_once.ensures.none (c.arms.invariant.passes later)

pub returns-then-is_true-clause-passes : goal.returns-then-is_true-clause-passes
returns-then-is_true-clause-passes c =
    let a = c.args in
    let l = c.arms in
    let items = items_of a.tree.now in
    let scope = a.scope.now in
    let s = a.heap.now in
    let n = c.in-Some.first.now in
    let behind = c.in-Some.behind.now in
    let v = c.in-Some-at_once.value in
    let mid = c.at_once.new.budget in
    let condition = c.arm.result.0 in
    let block = c.arm.result.1 in
    let h : EndsAtOnce items (jobs.Expression condition scope) (One v) s l.budget s mid =
    rw l.invariant.same at c.in-Some-at_once.ensures.found in
    λ later.
    l.invariant.passes later
    ∙ ap (λ (ns : List NodeId). run (jobs_of items) (arms_plan items ns a.otherwise scope) (state s l.budget) later)
    c.in-Some.ensures.cases.0
    ∙ arm_passes items n behind a.otherwise scope condition block v true s l.budget mid c.arm.ensures.condition c.arm.ensures.block
    (sym c.is_true.ensures ∙ c.if-is_true.true) h later

pub arms-preserved : goal.arms-preserved
arms-preserved c =
    let a = c.args in
    let l = c.arms in
    let items = items_of a.tree.now in
    let scope = a.scope.now in
    let s = a.heap.now in
    let n = c.in-Some.first.now in
    let behind = c.in-Some.behind.now in
    let v = c.in-Some-at_once.value in
    let mid = c.at_once.new.budget in
    let condition = c.arm.result.0 in
    let block = c.arm.result.1 in
    let h : EndsAtOnce items (jobs.Expression condition scope) (One v) s l.budget s mid =
    rw l.invariant.same at c.in-Some-at_once.ensures.found in
    record {
      same = c.in-Some-at_once.ensures.same ∙ l.invariant.same;
      passes = λ later.
          l.invariant.passes later
          ∙ ap (λ (ns : List NodeId). run (jobs_of items) (arms_plan items ns a.otherwise scope) (state s l.budget) later)
          c.in-Some.ensures.cases.0
          ∙ arm_passes items n behind a.otherwise scope condition block v false s l.budget mid c.arm.ensures.condition c.arm.ensures.block
          (sym c.is_true.ensures ∙ c.if-is_true.false) h later;
    }
