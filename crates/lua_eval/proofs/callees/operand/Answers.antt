use Rattle.std.proofs.Common.{◌≡◌, ◌-◌, List, refl, sym, ap, ◌∙◌, rules}
use Rattle.tl_base.specs.declared.ids.NodeId.{NodeId}
use Rattle.tl_base.specs.Plan.{Give, Do}
use Rattle.tl_tree.specs.Arena.{items_of}
use Rattle.tl_tree.specs.declared.node.Expression.{Expression}
use Rattle.tl_tree.specs.Item as kept
use Rattle.tl_tree.specs.Nodes.{item_at}
use Rattle.lua_model.specs.declared.job.Job.TheVariants as jobs
use Rattle.lua_model.specs.Plans.{LuaPlan}
use Rattle.lua_model.specs.Expressions.{expression_plan}
use Rattle.lua_eval.specs.CallPlans.{call_plan, method_plan}
use Rattle.lua_eval.specs.Steps.{Goes}
use Rattle.lua_eval.proofs.Doing.{enters_alone, begins, lacks}
use Rattle.lua_eval.proofs.Evaluating.{node_goes}
use Rattle.tl_base.proofs.Results.{if-ok}
use Rattle.lua_eval.proofs.callees.operand.Goals as goal

pub returns-then-not-pay-clause-means : goal.returns-then-not-pay-clause-means
returns-then-not-pay-clause-means c =
    let a = c.args in
    let items = items_of a.tree.now in
    let fs = a.frames.now.items in
    let s = a.heap.now in
    let job = jobs.Expression a.node a.scope in
    let test = c.if-not-pay.ensures in
    rw test.refused (lacks items fs fs (Do job Give) job s a.budget.now (enters_alone items fs job s a.budget.now) test.short)

pub returns-then-not-pay-2-clause-means : goal.returns-then-not-pay-2-clause-means
returns-then-not-pay-2-clause-means c =
    let a = c.args in
    let items = items_of a.tree.now in
    let fs = a.frames.now.items in
    let s = a.heap.now in
    let job = jobs.Expression a.node a.scope in
    let test = c.if-not-pay-2.ensures in
    rw test.refused (lacks items fs fs (Do job Give) job s a.budget.now (enters_alone items fs job s a.budget.now) test.short)

pub returns-else-not-pay-clause-means : goal.returns-else-not-pay-clause-means
returns-else-not-pay-clause-means c =
    let a = c.args in
    let m = c.in-Expression in
    let k = c.in-Call in
    let items = items_of a.tree.now in
    let fs = a.frames.now.items in
    let fs2 = c.evaluate_call.new.frames.items in
    let s = a.heap.now in
    let s2 = c.evaluate_call.new.heap in
    let left = a.budget.now in
    let left2 = c.evaluate_call.new.budget in
    let job = jobs.Expression a.node a.scope in
    let arguments = c.as_slice.result.now in
    let plan : List NodeId → LuaPlan = λ ns. call_plan items k.function ns m.place a.scope in
    let e : item_at items a.node ≡ kept.Expression m.place m.expression = search rules in
    if-ok c.evaluate_call.result c.evaluate_call.ensures.means (λ step it.
    let more : Goes items fs (plan arguments) s (left - 1) fs2 step s2 left2 = rw c.if-not-pay.ensures.paid at it in
    begins items fs fs fs2 (Do job Give) job s s2 left left2 step (enters_alone items fs job s left) (c.if-not-pay.ensures.enough.0 refl)
    (node_goes items fs fs2 (kept.Expression m.place m.expression) a.node a.scope (plan arguments) s s s2 (left - 1) left2 step e
    (ap (λ (x : Expression). expression_plan items x a.node m.place a.scope) k.is ∙ ap plan (sym c.as_slice.ensures)) refl more))

pub returns-else-not-pay-2-clause-means : goal.returns-else-not-pay-2-clause-means
returns-else-not-pay-2-clause-means c =
    let a = c.args in
    let m = c.in-Expression in
    let k = c.in-Method in
    let items = items_of a.tree.now in
    let fs = a.frames.now.items in
    let fs2 = c.evaluate_method.new.frames.items in
    let s = a.heap.now in
    let s2 = c.evaluate_method.new.heap in
    let left = a.budget.now in
    let left2 = c.evaluate_method.new.budget in
    let job = jobs.Expression a.node a.scope in
    let arguments = c.as_slice-in-Method.result.now in
    let plan : List NodeId → LuaPlan = λ ns. method_plan items k.object k.name ns m.place a.scope in
    let e : item_at items a.node ≡ kept.Expression m.place m.expression = search rules in
    if-ok c.evaluate_method.result c.evaluate_method.ensures.means (λ step it.
    let more : Goes items fs (plan arguments) s (left - 1) fs2 step s2 left2 = rw c.if-not-pay-2.ensures.paid at it in
    begins items fs fs fs2 (Do job Give) job s s2 left left2 step (enters_alone items fs job s left) (c.if-not-pay-2.ensures.enough.0 refl)
    (node_goes items fs fs2 (kept.Expression m.place m.expression) a.node a.scope (plan arguments) s s s2 (left - 1) left2 step e
    (ap (λ (x : Expression). expression_plan items x a.node m.place a.scope) k.is ∙ ap plan (sym c.as_slice-in-Method.ensures)) refl more))
