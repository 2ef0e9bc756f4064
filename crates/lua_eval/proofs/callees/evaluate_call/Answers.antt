use Rattle.std.proofs.Common.{List, [], refl, sym, ap}
use Rattle.tl_tree.specs.Arena.{items_of}
use Rattle.lua_value.specs.declared.value.Value.{Value}
use Rattle.lua_model.specs.declared.job.Job.TheVariants as jobs
use Rattle.lua_model.specs.Plans.{LuaPlan}
use Rattle.lua_eval.specs.Frames.{list_plan}
use Rattle.lua_eval.specs.declared.frame.LuaFrame.TheVariants as frames
use Rattle.lua_eval.specs.declared.frame.OneFrame.TheVariants as ones
use Rattle.lua_eval.specs.declared.frame.CallFrame.TheVariants as of_call
use Rattle.lua_eval.specs.declared.frame.Then.TheVariants as thens
use Rattle.lua_eval.proofs.AtOnce.{behind_value}
use Rattle.lua_eval.proofs.Below.{moved}
use Rattle.lua_eval.proofs.Doing.{enters}
use Rattle.tl_base.proofs.Results.{if-ok}
use Rattle.lua_eval.proofs.callees.evaluate_call.Goals as goal

pub returns-in-Some-clause-means : goal.returns-in-Some-clause-means
returns-in-Some-clause-means c =
    let a = c.args in
    let items = items_of a.tree.now in
    let fs = a.frames.now.items in
    let fs2 = c.list.new.frames.items in
    let s = a.heap.now in
    let t = c.at_once.new.heap in
    let mid = c.at_once.new.budget in
    let f = c.in-Some.value in
    let none = c.new-none.result in
    let plan : List Value → LuaPlan = λ vs. list_plan items a.arguments.now a.scope vs (thens.Call f a.place) in
    if-ok c.list.result c.list.ensures.means (λ step it. behind_value items fs fs2 a.function a.scope f (λ v. list_plan items a.arguments.now a.scope [] (thens.Call v a.place))
    s s c.list.new.heap a.budget.now mid c.list.new.budget step refl c.in-Some.ensures.found
    (moved items fs fs2 (plan []) (plan none) s t c.list.new.heap mid c.list.new.budget step
    (ap plan (sym c.new-none.ensures)) (sym c.in-Some.ensures.same) it))

pub returns-in_ok-push-in-None-clause-means : goal.returns-in_ok-push-in-None-clause-means
returns-in_ok-push-in-None-clause-means c =
    let a = c.args in
    let items = items_of a.tree.now in
    let fs = a.frames.now.items in
    let pushed = c.push.new.self.items in
    let s = a.heap.now in
    let job = jobs.Expression a.function a.scope in
    rw c.in-None.ensures.none (rw c.in-None.ensures.same
    (enters items fs pushed (frames.One (ones.Call (of_call.Function a.arguments a.place a.scope))) job s a.budget.now
    c.in_ok-push-in-None.ensures.items))
