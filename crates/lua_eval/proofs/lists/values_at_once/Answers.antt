use Rattle.std.proofs.Common.{List, sym, ap, ◌∙◌}
use Rattle.tl_base.specs.declared.ids.NodeId.{NodeId}
use Rattle.tl_base.specs.Layer.{state}
use Rattle.tl_base.specs.Plan.{run}
use Rattle.tl_tree.specs.Arena.{items_of}
use Rattle.lua_value.specs.declared.value.Value.{Value}
use Rattle.lua_model.specs.declared.job.Job.TheVariants as jobs
use Rattle.lua_model.specs.declared.end.End.TheVariants.{One}
use Rattle.lua_model.specs.Plans.{values_of}
use Rattle.lua_eval.specs.AtOnce.{EndsAtOnce}
use Rattle.lua_eval.proofs.AtOnce.{value_passes}
use Rattle.lua_eval.proofs.Below.{jobs_of}
use Rattle.lua_eval.proofs.lists.values_at_once.Goals as goal

pub returns-in-None-at_once-clause-passes : goal.returns-in-None-at_once-clause-passes
returns-in-None-at_once-clause-passes c = λ go later.
    rw c.in-None-at_once.ensures.none (c.values.invariant.passes go later)

pub values-preserved : goal.values-preserved
values-preserved c =
    let a = c.args in
    let l = c.values in
    let items = items_of a.tree.now in
    let scope = a.scope.now in
    let s = a.heap.now in
    let n = c.in-Some.first.now in
    let behind = c.in-Some.behind.now in
    let v = c.in-Some-at_once.value in
    let mid = c.at_once.new.budget in
    let h : EndsAtOnce items (jobs.Expression n scope) (One v) s l.budget s mid =
    rw l.invariant.same at c.in-Some-at_once.ensures.found in
    record {
      same = c.in-Some-at_once.ensures.same ∙ l.invariant.same;
      passes = λ go later.
          l.invariant.passes go later
          ∙ ap (λ (ns : List NodeId). run (jobs_of items) (values_of ns scope l.values go) (state s l.budget) later) c.in-Some.ensures.cases.0
          ∙ value_passes items n behind scope l.values v go s l.budget mid h later
          ∙ ap (λ (vs : List Value). run (jobs_of items) (values_of behind scope vs go) (state s mid) later)
          (sym c.in_ok-push-in-Some-at_once.ensures.ok);
    }
