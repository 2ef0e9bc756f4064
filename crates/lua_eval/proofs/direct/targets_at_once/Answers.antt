use Rattle.std.proofs.Common.{List, [], ◌∷◌, ◌++◌, sym, ap, ◌∙◌}
use Rattle.tl_base.specs.declared.ids.NodeId.{NodeId}
use Rattle.tl_base.specs.Layer.{state}
use Rattle.tl_base.specs.Plan.{Run, run, then_do}
use Rattle.tl_tree.specs.Arena.{items_of}
use Rattle.lua_value.specs.declared.value.Value.{Value}
use Rattle.lua_table.specs.LuaState.{LuaState}
use Rattle.lua_model.specs.declared.job.Job.TheVariants as jobs
use Rattle.lua_model.specs.declared.end.End.{End}
use Rattle.lua_model.specs.declared.end.End.TheVariants.{Many}
use Rattle.lua_model.specs.declared.question.LuaQuestion.{LuaQuestion}
use Rattle.lua_model.specs.declared.question.LuaAnswer.{LuaAnswer}
use Rattle.lua_model.specs.Plans.{on_all}
use Rattle.lua_model.specs.Assignments.{targets}
use Rattle.lua_eval.specs.AtOnce.{EndsAtOnce}
use Rattle.lua_eval.proofs.Below.{jobs_of}
use Rattle.lua_eval.proofs.direct.targets_at_once.Goals as goal

pub returns-in-None-held_at_once-clause-passes : goal.returns-in-None-held_at_once-clause-passes
returns-in-None-held_at_once-clause-passes c = λ go later.
    rw c.in-None-held_at_once.ensures.none (c.targets.invariant.passes go later)

pub targets-preserved : goal.targets-preserved
targets-preserved c =
    let a = c.args in
    let l = c.targets in
    let items = items_of a.tree.now in
    let scope = a.scope.now in
    let s = a.heap.now in
    let n = c.in-Some.first.now in
    let behind = c.in-Some.behind.now in
    let pair = c.in-Some-held_at_once.pair in
    let us = pair.object ∷ pair.key ∷ [] in
    let mid = c.held_at_once.new.budget in
    let h : EndsAtOnce items (jobs.Target n scope) (Many us) s l.budget s mid =
    rw l.invariant.same at c.in-Some-held_at_once.ensures.found in
    record {
      same = c.in-Some-held_at_once.ensures.same ∙ l.invariant.same;
      passes = λ go later.
          l.invariant.passes go later
          ∙ ap (λ (ns : List NodeId). run (jobs_of items) (targets ns scope l.held go) (state s l.budget) later) c.in-Some.ensures.cases.0
          ∙ ap (λ (o : Run LuaState LuaQuestion LuaAnswer End).
          then_do o (λ r. run (jobs_of items) (on_all r (λ vs. targets behind scope (l.held ++ vs) go)))) (h later)
          ∙ ap (λ (vs : List Value). run (jobs_of items) (targets behind scope vs go) (state s mid) later)
          (sym c.in_ok-push_held-in-Some-held_at_once.ensures.ok);
    }
