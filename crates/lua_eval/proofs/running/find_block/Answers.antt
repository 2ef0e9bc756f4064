use Rattle.std.proofs.Common.{arith, ◌≤◌, List, true, false, sym, ap, ◌∙◌}
use Rattle.tl_base.specs.declared.ids.NodeId.{NodeId}
use Rattle.tl_base.specs.Layer.{state}
use Rattle.tl_base.specs.Plan.{run}
use Rattle.tl_tree.specs.Arena.{items_of}
use Rattle.lua_model.specs.declared.job.Job.TheVariants as jobs
use Rattle.lua_model.specs.declared.end.End.TheVariants.{One}
use Rattle.lua_model.specs.Statements.{arms_plan}
use Rattle.lua_eval.specs.AtOnce.{EndsAtOnce}
use Rattle.lua_eval.proofs.AtOnce.{never_gains}
use Rattle.lua_eval.proofs.Below.{jobs_of}
use Rattle.lua_eval.proofs.Choosing.{arm_passes}
use Rattle.lua_eval.proofs.Listing.{none_is, none_of}
use Rattle.lua_eval.proofs.running.find_block.Goals as goal

pub returns-in-None-clause-passes : goal.returns-in-None-clause-passes
returns-in-None-clause-passes c = λ later.
    let a = c.args in
    let l = c.arms in
    let items = items_of a.tree.now in
    l.invariant.passes later
    ∙ ap (λ (ns : List NodeId). run (jobs_of items) (arms_plan items ns a.otherwise a.scope.now) (state a.heap.now l.units) later)
    (none_is l.rest.now c.in-None.ensures.cases)

pub returns-then-is_empty-clause-passes : goal.returns-then-is_empty-clause-passes
returns-then-is_empty-clause-passes c = λ later.
    let a = c.args in
    let l = c.arms in
    let items = items_of a.tree.now in
    l.invariant.passes later
    ∙ ap (λ (ns : List NodeId). run (jobs_of items) (arms_plan items ns a.otherwise a.scope.now) (state a.heap.now l.units) later)
    (none_is l.rest.now (none_of l.rest.now (sym c.is_empty.ensures ∙ c.if-is_empty.true)))

pub returns-then-is_true-clause-passes : goal.returns-then-is_true-clause-passes
returns-then-is_true-clause-passes c =
    let a = c.args in
    let l = c.arms in
    let items = items_of a.tree.now in
    let scope = a.scope.now in
    let s = a.heap.now in
    let n = c.in-Some.first.now in
    let behind = c.in-Some.behind.now in
    let found = c.in-Some-find.found in
    let condition = c.arm.result.0 in
    let block = c.arm.result.1 in
    let h : EndsAtOnce items (jobs.Expression condition scope) (One found.value) s l.units s found.left =
    rw l.invariant.same at c.in-Some-find.ensures.found in
    λ later.
    l.invariant.passes later
    ∙ ap (λ (ns : List NodeId). run (jobs_of items) (arms_plan items ns a.otherwise scope) (state s l.units) later) c.in-Some.ensures.cases.0
    ∙ arm_passes items n behind a.otherwise scope condition block found.value true s l.units found.left c.arm.ensures.condition c.arm.ensures.block
    (sym c.is_true.ensures ∙ c.if-is_true.true) h later

pub returns-then-is_true-clause-within : goal.returns-then-is_true-clause-within
returns-then-is_true-clause-within c =
    let l = c.arms in
    let items = items_of c.args.tree.now in
    let found = c.in-Some-find.found in
    let less : found.left ≤ l.units =
    never_gains items (jobs.Expression c.arm.result.0 c.args.scope.now) (One found.value) l.heap l.heap l.units found.left c.in-Some-find.ensures.found in
    omega (arith, less, l.invariant.within)

pub arms-preserved : goal.arms-preserved
arms-preserved c =
    let a = c.args in
    let l = c.arms in
    let items = items_of a.tree.now in
    let scope = a.scope.now in
    let s = a.heap.now in
    let n = c.in-Some.first.now in
    let behind = c.in-Some.behind.now in
    let found = c.in-Some-find.found in
    let condition = c.arm.result.0 in
    let block = c.arm.result.1 in
    let less : found.left ≤ l.units =
    never_gains items (jobs.Expression condition scope) (One found.value) l.heap l.heap l.units found.left c.in-Some-find.ensures.found in
    let h : EndsAtOnce items (jobs.Expression condition scope) (One found.value) s l.units s found.left =
    rw l.invariant.same at c.in-Some-find.ensures.found in
    record {
      same = c.in-Some-find.ensures.same ∙ l.invariant.same;
      within = omega (arith, less, l.invariant.within);
      passes = λ later.
          l.invariant.passes later
          ∙ ap (λ (ns : List NodeId). run (jobs_of items) (arms_plan items ns a.otherwise scope) (state s l.units) later) c.in-Some.ensures.cases.0
          ∙ arm_passes items n behind a.otherwise scope condition block found.value false s l.units found.left c.arm.ensures.condition c.arm.ensures.block
          (sym c.is_true.ensures ∙ c.if-is_true.false) h later;
    }
