use Rattle.std.proofs.Common.{arith, ◌∙◌}
use Rattle.tl_base.specs.Plan.{Give, Do}
use Rattle.tl_tree.specs.Arena.{items_of}
use Rattle.lua_table.proofs.Keeping.{keeps_itself, keeps_then}
use Rattle.lua_model.specs.declared.end.End.{End}
use Rattle.lua_model.specs.declared.job.Job.TheVariants as jobs
use Rattle.lua_model.specs.Plans.{LuaPlan}
use Rattle.lua_eval.specs.AtOnce.{Becomes}
use Rattle.lua_eval.specs.Called.{called_plan}
use Rattle.lua_eval.specs.Waiting.{wait_plan}
use Rattle.lua_table.proofs.Keeping.{heap_keeps_by}
use Rattle.lua_eval.proofs.waiting.passed_by.Goals as goal

pub call_of-requires-clause-units : goal.call_of-requires-clause-units
call_of-requires-clause-units c = omega (arith, c.in-Some.ensures.within, c.requires.units)

pub returns-in_ok-passed-in-Some-called-clause-passes : goal.returns-in_ok-passed-in-Some-called-clause-passes
returns-in_ok-passed-in-Some-called-clause-passes c = λ n place later.
    let a = c.args in
    let items = items_of a.tree.now in
    let scope = a.scope.now in
    let s = a.heap.now in
    let begun = c.in-Some.begun in
    let done = c.in-Some-called.done in
    let t = c.call_of.new.heap in
    let mid = c.call_of.new.budget in
    let go : End → LuaPlan = λ r. wait_plan begun.wait scope r Give in
    let h : (k : End → LuaPlan) → Becomes items (Do (jobs.Expression begun.node scope) k) s begun.left
    (called_plan done c.call_of.new.given k) t mid =
    rw c.in-Some.ensures.same at (rw c.in-Some-called.is at c.in_ok-called.ensures.passes) in
    c.in-Some.ensures.passes n place later
    ∙ h go later
    ∙ c.in_ok-passed-in-Some-called.ensures.passes items mid Give later

pub returns-in_ok-passed-in-Some-called-clause-kept : goal.returns-in_ok-passed-in-Some-called-clause-kept
returns-in_ok-passed-in-Some-called-clause-kept c =
    let s = c.args.heap.now in
    heap_keeps_by s c.begin_statement.new.heap s c.pass.new.heap c.in-Some.ensures.same (keeps_itself s)
    (keeps_then c.begin_statement.new.heap c.call_of.new.heap c.pass.new.heap c.in_ok-called.ensures.kept c.in_ok-passed-in-Some-called.ensures.kept)
