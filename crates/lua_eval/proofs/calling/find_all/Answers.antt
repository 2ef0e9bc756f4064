use Rattle.std.proofs.Common.{arith, ◌≤◌, List, sym, ap, ◌∙◌}
use Rattle.tl_base.specs.declared.ids.NodeId.{NodeId}
use Rattle.tl_base.specs.Layer.{state}
use Rattle.tl_base.specs.Plan.{run}
use Rattle.tl_tree.specs.Arena.{items_of}
use Rattle.lua_value.specs.declared.value.Value.{Value}
use Rattle.lua_model.specs.declared.job.Job.TheVariants as jobs
use Rattle.lua_model.specs.declared.end.End.TheVariants.{One}
use Rattle.lua_model.specs.Plans.{values_of}
use Rattle.lua_eval.specs.AtOnce.{EndsAtOnce}
use Rattle.lua_eval.proofs.AtOnce.{never_gains, value_passes}
use Rattle.lua_eval.proofs.Below.{jobs_of}
use Rattle.lua_eval.proofs.Listing.{none_is, none_of}
use Rattle.lua_eval.proofs.calling.find_all.Goals as goal

pub returns-in-None-clause-passes : goal.returns-in-None-clause-passes
returns-in-None-clause-passes c = λ go later.
    let a = c.args in
    let l = c.values in
    let items = items_of a.tree.now in
    l.invariant.passes go later
    ∙ ap (λ (ns : List NodeId). run (jobs_of items) (values_of ns a.scope.now l.values go) (state a.heap.now l.units) later)
    (none_is l.rest.now c.in-None.ensures.cases)

pub returns-then-is_empty-clause-passes : goal.returns-then-is_empty-clause-passes
returns-then-is_empty-clause-passes c = λ go later.
    let a = c.args in
    let l = c.values in
    let items = items_of a.tree.now in
    l.invariant.passes go later
    ∙ ap (λ (ns : List NodeId). run (jobs_of items) (values_of ns a.scope.now l.values go) (state a.heap.now l.units) later)
    (none_is l.rest.now (none_of l.rest.now (sym c.is_empty.ensures ∙ c.if-is_empty.true)))

pub values-preserved : goal.values-preserved
values-preserved c =
    let a = c.args in
    let l = c.values in
    let items = items_of a.tree.now in
    let scope = a.scope.now in
    let s = a.heap.now in
    let n = c.in-Some.first.now in
    let behind = c.in-Some.behind.now in
    let found = c.in-Some-find.found in
    let less : found.left ≤ l.units =
    never_gains items (jobs.Expression n scope) (One found.value) l.heap l.heap l.units found.left c.in-Some-find.ensures.found in
    let h : EndsAtOnce items (jobs.Expression n scope) (One found.value) s l.units s found.left =
    rw l.invariant.same at c.in-Some-find.ensures.found in
    record {
      same = c.in-Some-find.ensures.same ∙ l.invariant.same;
      within = omega (arith, less, l.invariant.within);
      passes = λ go later.
          l.invariant.passes go later
          ∙ ap (λ (ns : List NodeId). run (jobs_of items) (values_of ns scope l.values go) (state s l.units) later) c.in-Some.ensures.cases.0
          ∙ value_passes items n behind scope l.values found.value go s l.units found.left h later
          ∙ ap (λ (vs : List Value). run (jobs_of items) (values_of behind scope vs go) (state s found.left) later)
          (sym c.in_ok-push-in-Some-find.ensures.ok);
    }
