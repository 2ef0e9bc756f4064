use Rattle.std.proofs.Common.{arith, ◌-◌, ◌≤◌, List, ◌∷◌, refl, ap}
use Rattle.tl_base.specs.Plan.{Give}
use Rattle.tl_base.specs.declared.ids.NodeId.{NodeId}
use Rattle.tl_base.specs.declared.machine.Step.TheVariants.{Enter}
use Rattle.tl_tree.specs.Arena.{items_of}
use Rattle.lua_model.specs.declared.job.Job.TheVariants as jobs
use Rattle.lua_model.specs.Meaning.{job_plan}
use Rattle.lua_model.specs.Plans.{LuaPlan, statements}
use Rattle.lua_eval.specs.Steps.{Goes}
use Rattle.lua_eval.specs.declared.frame.LuaFrame.TheVariants as frames
use Rattle.lua_eval.proofs.Below.{moved}
use Rattle.lua_eval.proofs.Doing.{enters, begins, lacks}
use Rattle.tl_base.proofs.Results.{if-ok}
use Rattle.lua_eval.proofs.waiting.begin_statements.Goals as goal

pub returns-then-not-pay-clause-means : goal.returns-then-not-pay-clause-means
returns-then-not-pay-clause-means c =
    let a = c.args in
    let items = items_of a.tree.now in
    let fs = a.frames.now.items in
    let pushed = c.push.new.self.items in
    let s = a.heap.now in
    let left = a.budget.now in
    let n = c.in-Some.first.now in
    let ns = c.in-Some.rest.now in
    let f = frames.Block c.in-Some.rest a.scope a.out in
    let job = jobs.Statement n a.scope in
    let p : LuaPlan = statements a.list.now a.scope a.out Give in
    let entered : Goes items fs p s left pushed (Enter job) s left =
    moved items fs pushed p (statements (n ∷ ns) a.scope a.out Give) s s s left left (Enter job)
    (ap (λ (l : List NodeId). statements l a.scope a.out Give) c.in-Some.ensures.cases.0) refl
    (enters items fs pushed f job s left c.in_ok-push-in-Some.ensures.items) in
    rw c.if-not-pay.ensures.refused (lacks items fs pushed p job s left entered c.if-not-pay.ensures.short)

pub returns-else-not-pay-clause-means : goal.returns-else-not-pay-clause-means
returns-else-not-pay-clause-means c =
    let a = c.args in
    let items = items_of a.tree.now in
    let fs = a.frames.now.items in
    let pushed = c.push.new.self.items in
    let s = a.heap.now in
    let left = a.budget.now in
    let n = c.in-Some.first.now in
    let ns = c.in-Some.rest.now in
    let f = frames.Block c.in-Some.rest a.scope a.out in
    let job = jobs.Statement n a.scope in
    let p : LuaPlan = statements a.list.now a.scope a.out Give in
    let entered : Goes items fs p s left pushed (Enter job) s left =
    moved items fs pushed p (statements (n ∷ ns) a.scope a.out Give) s s s left left (Enter job)
    (ap (λ (l : List NodeId). statements l a.scope a.out Give) c.in-Some.ensures.cases.0) refl
    (enters items fs pushed f job s left c.in_ok-push-in-Some.ensures.items) in
    let enough : 1 ≤ left = grind (arith, c.if-not-pay.ensures.enough) in
    let r = c.statement in
    if-ok r.result r.ensures.means (λ step it.
    let begun : Goes items pushed (job_plan items job) s (left - 1) r.new.frames.items step r.new.heap r.new.budget =
    rw c.if-not-pay.ensures.paid at it in
    begins items fs pushed r.new.frames.items p job s r.new.heap left r.new.budget step entered enough begun)
