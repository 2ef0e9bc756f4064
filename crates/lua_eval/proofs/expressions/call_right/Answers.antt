use Rattle.std.proofs.Common.{◌≡◌}
use Rattle.tl_base.specs.Plan.{Give, Do}
use Rattle.tl_tree.specs.Arena.{items_of}
use Rattle.lua_value.specs.declared.value.Value.{Value}
use Rattle.lua_table.proofs.Keeping.{keeps_then}
use Rattle.lua_model.specs.declared.job.Job.TheVariants as jobs
use Rattle.lua_model.specs.declared.end.End.{End}
use Rattle.lua_model.specs.Plans.{LuaPlan}
use Rattle.lua_model.specs.Operators.{operate}
use Rattle.lua_eval.specs.AtOnce.{Becomes}
use Rattle.lua_eval.specs.Called.{called_plan}
use Rattle.lua_eval.specs.declared.calling.Called.{Called}
use Rattle.lua_eval.specs.declared.calling.Called.TheVariants as called
use Rattle.lua_eval.specs.declared.frame.LuaFrame.TheVariants as frames
use Rattle.lua_eval.specs.declared.frame.OneFrame.TheVariants as ones
use Rattle.lua_eval.specs.declared.frame.ValueFrame.TheVariants as of_value
use Rattle.lua_eval.specs.Steps.{Goes}
use Rattle.lua_eval.proofs.Doing.{job_below}
use Rattle.lua_eval.proofs.Passing.{on-any}
use Rattle.tl_base.proofs.Results.{if-ok, on-ok}
use Rattle.lua_eval.proofs.Waited.{called_goes, inside_below}
use Rattle.lua_eval.proofs.expressions.call_right.Goals as goal

pub returns-in_ok-push-in-None-clause-means : goal.returns-in_ok-push-in-None-clause-means
returns-in_ok-push-in-None-clause-means c =
    let a = c.args in
    let items = items_of a.tree.now in
    let fs = a.frames.now.items in
    let fs2 = c.operand.new.frames.items in
    let s = a.heap.now in
    let t = c.call_of.new.heap in
    let mid = c.call_of.new.budget in
    let s2 = c.operand.new.heap in
    let left2 = c.operand.new.budget in
    let pushed = c.push.new.self.items in
    let job = jobs.Expression a.right a.scope in
    let heap : t ≡ s = rw c.in-None.is at c.in_ok-called.ensures.heap in
    let budget : mid ≡ a.budget.now = rw c.in-None.is at c.in_ok-called.ensures.budget in
    if-ok c.operand.result c.operand.ensures.means (λ step it.
    let more : Goes items pushed (Do job Give) s a.budget.now fs2 step s2 left2 = rw (heap, budget) at it in
    job_below items fs pushed fs2 (frames.One (ones.Value (of_value.Right a.op a.value a.place a.scope.call))) job s s2
    a.budget.now left2 step c.in_ok-push-in-None.ensures.items more)

pub returns-in-Some-Nothing-clause-means : goal.returns-in-Some-Nothing-clause-means
returns-in-Some-Nothing-clause-means c =
    let a = c.args in
    let items = items_of a.tree.now in
    let fs = a.frames.now.items in
    let fs2 = c.operate.new.frames.items in
    let s = a.heap.now in
    let t = c.call_of.new.heap in
    let mid = c.call_of.new.budget in
    let s2 = c.operate.new.heap in
    let left2 = c.operate.new.budget in
    let plan : Value → LuaPlan = λ w. operate items a.op a.value w a.place a.scope.call in
    let v = c.call_of.new.given in
    let m = c.in-Some-Nothing in
    let is : m.field-0 ≡ called.Nothing = rw m.is at m.field-0-is in
    let h : (k : End → LuaPlan) → Becomes items (Do (jobs.Expression a.right a.scope) k) s a.budget.now (called_plan called.Nothing v k) t mid =
    rw (m.is, is, c.left-units.ensures) at c.in_ok-called.ensures.passes in
    if-ok c.operate.result c.operate.ensures.means (λ step it.
    called_goes items fs fs2 a.right a.scope called.Nothing v plan s t s2 a.budget.now mid left2 step h it)

pub returns-in-Some-Gave-clause-means : goal.returns-in-Some-Gave-clause-means
returns-in-Some-Gave-clause-means c =
    let a = c.args in
    let items = items_of a.tree.now in
    let fs = a.frames.now.items in
    let fs2 = c.operate-in-Some-Gave.new.frames.items in
    let s = a.heap.now in
    let t = c.call_of.new.heap in
    let mid = c.call_of.new.budget in
    let s2 = c.operate-in-Some-Gave.new.heap in
    let left2 = c.operate-in-Some-Gave.new.budget in
    let plan : Value → LuaPlan = λ w. operate items a.op a.value w a.place a.scope.call in
    let v = c.call_of.new.given in
    let m = c.in-Some-Gave in
    let is : m.field-0 ≡ called.Gave = rw m.is at m.field-0-is in
    let h : (k : End → LuaPlan) → Becomes items (Do (jobs.Expression a.right a.scope) k) s a.budget.now (called_plan called.Gave v k) t mid =
    rw (m.is, is, c.left-units.ensures) at c.in_ok-called.ensures.passes in
    if-ok c.operate-in-Some-Gave.result c.operate-in-Some-Gave.ensures.means (λ step it.
    called_goes items fs fs2 a.right a.scope called.Gave v plan s t s2 a.budget.now mid left2 step h it)

pub returns-in_ok-push-in-Some-Inside-clause-means : goal.returns-in_ok-push-in-Some-Inside-clause-means
returns-in_ok-push-in-Some-Inside-clause-means c =
    let a = c.args in
    let items = items_of a.tree.now in
    let fs = a.frames.now.items in
    let fs2 = c.inside_on.new.frames.items in
    let s = a.heap.now in
    let t = c.call_of.new.heap in
    let mid = c.call_of.new.budget in
    let plan : Value → LuaPlan = λ w. operate items a.op a.value w a.place a.scope.call in
    let pushed = c.push-in-Some-Inside.new.self.items in
    let v = c.call_of.new.given in
    let m = c.in-Some-Inside in
    let left : Called = called.Inside m.halt m.inner in
    let is : m.field-0 ≡ left = rw m.is at m.field-0-is in
    let h : (k : End → LuaPlan) → Becomes items (Do (jobs.Expression a.right a.scope) k) s a.budget.now (called_plan left v k) t mid =
    rw (m.is, is, c.left-units.ensures) at c.in_ok-called.ensures.passes in
    if-ok c.inside_on.result c.inside_on.ensures.means (λ step it.
    called_goes items fs fs2 a.right a.scope left v plan s t t a.budget.now mid mid step h
    (inside_below items fs pushed fs2 (frames.One (ones.Value (of_value.Right a.op a.value a.place a.scope.call))) m.halt m.inner t t mid mid step
    c.in_ok-push-in-Some-Inside.ensures.items (it items t mid)))

pub returns-in_ok-push-in-None-clause-kept : goal.returns-in_ok-push-in-None-clause-kept
returns-in_ok-push-in-None-clause-kept c =
    on-ok c.operand.result c.operand.ensures.kept (λ kept.
    keeps_then c.args.heap.now c.call_of.new.heap c.operand.new.heap c.in_ok-called.ensures.kept kept)

pub returns-in-Some-Nothing-clause-kept : goal.returns-in-Some-Nothing-clause-kept
returns-in-Some-Nothing-clause-kept c =
    on-ok c.operate.result c.operate.ensures.kept (λ kept.
    keeps_then c.args.heap.now c.call_of.new.heap c.operate.new.heap c.in_ok-called.ensures.kept kept)

pub returns-in-Some-Gave-clause-kept : goal.returns-in-Some-Gave-clause-kept
returns-in-Some-Gave-clause-kept c =
    on-ok c.operate-in-Some-Gave.result c.operate-in-Some-Gave.ensures.kept (λ kept.
    keeps_then c.args.heap.now c.call_of.new.heap c.operate-in-Some-Gave.new.heap c.in_ok-called.ensures.kept kept)

pub returns-in_ok-push-in-Some-Inside-clause-kept : goal.returns-in_ok-push-in-Some-Inside-clause-kept
returns-in_ok-push-in-Some-Inside-clause-kept c = on-any c.inside_on.result c.in_ok-called.ensures.kept
