use Rattle.std.proofs.Common.{◌≡◌, [], ap, ◌∙◌}
use Rattle.tl_base.specs.Layer.{state}
use Rattle.tl_base.specs.Plan.{Do, run}
use Rattle.tl_tree.specs.Arena.{items_of}
use Rattle.lua_table.proofs.Keeping.{keeps_then}
use Rattle.lua_model.specs.declared.end.End.{End}
use Rattle.lua_model.specs.declared.end.End.TheVariants.{Fell}
use Rattle.lua_model.specs.declared.job.Job.TheVariants as jobs
use Rattle.lua_model.specs.Plans.{LuaPlan, on_fell, statements}
use Rattle.lua_eval.specs.AtOnce.{Becomes}
use Rattle.lua_eval.specs.Waiting.{passed_plan}
use Rattle.lua_eval.specs.declared.waiting.Passed.TheVariants as passed
use Rattle.lua_eval.proofs.Below.{jobs_of}
use Rattle.lua_eval.proofs.Waited.{done_passes}
use Rattle.lua_eval.proofs.waiting.run_calls.Goals as goal

pub returns-in-None-clause-passes : goal.returns-in-None-clause-passes
returns-in-None-clause-passes c = λ out go later.
    c.calls.invariant.passes out go later ∙ c.in_ok-halt.ensures.passes out go later

pub returns-in-None-clause-kept : goal.returns-in-None-clause-kept
returns-in-None-clause-kept c =
    keeps_then c.args.heap.now c.calls.heap c.run.new.heap c.calls.invariant.kept c.in_ok-halt.ensures.kept

pub returns-in-None-done-clause-passes : goal.returns-in-None-done-clause-passes
returns-in-None-done-clause-passes c = λ out go later.
    let r = c.in_ok-done-in-Some in
    let heap : c.pass_statement.new.heap ≡ c.run.new.heap = rw c.in-None-done.is at r.ensures.heap in
    let left : c.pass_statement.new.budget ≡ c.run.new.budget = rw c.in-None-done.is at r.ensures.budget in
    rw heap (rw left (c.calls.invariant.passes out go later ∙ c.in_ok-halt.ensures.passes out go later))

pub returns-in-None-done-clause-kept : goal.returns-in-None-done-clause-kept
returns-in-None-done-clause-kept c =
    keeps_then c.args.heap.now c.run.new.heap c.pass_statement.new.heap
    (keeps_then c.args.heap.now c.calls.heap c.run.new.heap c.calls.invariant.kept c.in_ok-halt.ensures.kept)
    c.in_ok-done-in-Some.ensures.kept

pub returns-in-Inside-clause-passes : goal.returns-in-Inside-clause-passes
returns-in-Inside-clause-passes c = λ out go later.
    let items = items_of c.args.tree.now in
    let scope = c.args.scope.now in
    let halt = c.in_ok-halt.halt in
    let n = c.in-Some.first in
    let behind = c.in-Some.behind.now in
    let s = c.run.new.heap in
    let left = c.run.new.budget in
    let m = c.in-Inside in
    let p = passed.Inside m.inside m.inner m.wait in
    let k : End → LuaPlan = λ r. on_fell r out go (λ all. statements behind scope all go) in
    let h : (k : End → LuaPlan) → Becomes items (Do (jobs.Statement n scope) k) s left (passed_plan p scope k)
    c.pass_statement.new.heap c.pass_statement.new.budget =
    rw m.is at (rw c.in-Some-done.is at c.in_ok-done-in-Some.ensures.passes) in
    c.calls.invariant.passes out go later
    ∙ c.in_ok-halt.ensures.passes out go later
    ∙ ap (λ (q : LuaPlan). run (jobs_of items) q (state s left) later) (c.in-Some.ensures scope out go)
    ∙ h k later

pub returns-in-Inside-clause-kept : goal.returns-in-Inside-clause-kept
returns-in-Inside-clause-kept c =
    keeps_then c.args.heap.now c.run.new.heap c.pass_statement.new.heap
    (keeps_then c.args.heap.now c.calls.heap c.run.new.heap c.calls.invariant.kept c.in_ok-halt.ensures.kept)
    c.in_ok-done-in-Some.ensures.kept

pub calls-preserved : goal.calls-preserved
calls-preserved c =
    let a = c.args in
    let l = c.calls in
    let items = items_of a.tree.now in
    let scope = a.scope.now in
    let n = c.in-Some.first in
    let behind = c.in-Some.behind.now in
    let s = c.run.new.heap in
    let left = c.run.new.budget in
    let t = c.pass_statement.new.heap in
    let mid = c.pass_statement.new.budget in
    let h : (k : End → LuaPlan) → Becomes items (Do (jobs.Statement n scope) k) s left (k (Fell [])) t mid =
    rw c.in-Done.is at (rw c.in-Some-done.is at c.in_ok-done-in-Some.ensures.passes) in
    record {
      passes = λ out go later.
          l.invariant.passes out go later
          ∙ c.in_ok-halt.ensures.passes out go later
          ∙ ap (λ (q : LuaPlan). run (jobs_of items) q (state s left) later) (c.in-Some.ensures scope out go)
          ∙ done_passes items n behind scope out go s t left mid h later;
      kept = keeps_then a.heap.now s t (keeps_then a.heap.now l.heap s l.invariant.kept c.in_ok-halt.ensures.kept)
          c.in_ok-done-in-Some.ensures.kept;
    }
