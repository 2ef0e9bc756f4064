use Rattle.std.proofs.Common.{◌≡◌, ◌-◌, refl, ap, rules}
use Rattle.tl_base.specs.Plan.{Give, Do}
use Rattle.tl_tree.specs.Arena.{items_of}
use Rattle.tl_tree.specs.declared.node.Expression.{Expression}
use Rattle.tl_tree.specs.Item as kept
use Rattle.tl_tree.specs.Nodes.{item_at}
use Rattle.lua_model.specs.declared.job.Job.TheVariants as jobs
use Rattle.lua_model.specs.Operators.{binary_plan}
use Rattle.lua_model.specs.Expressions.{expression_plan}
use Rattle.lua_eval.specs.Steps.{Goes}
use Rattle.lua_eval.proofs.Doing.{enters_alone, begins, lacks}
use Rattle.lua_eval.proofs.Evaluating.{node_goes}
use Rattle.tl_base.proofs.Results.{if-ok}
use Rattle.lua_eval.proofs.expressions.inside.Goals as goal

pub returns-then-not-pay-clause-means : goal.returns-then-not-pay-clause-means
returns-then-not-pay-clause-means c =
    let a = c.args in
    let items = items_of a.tree.now in
    let fs = a.frames.now.items in
    let s = a.heap.now in
    let job = jobs.Expression a.node a.scope in
    let test = c.if-not-pay.ensures in
    rw test.refused (lacks items fs fs (Do job Give) job s a.budget.now (enters_alone items fs job s a.budget.now) test.short)

pub returns-else-not-pay-clause-means : goal.returns-else-not-pay-clause-means
returns-else-not-pay-clause-means c =
    let a = c.args in
    let m = c.in-Expression in
    let k = c.in-Binary in
    let items = items_of a.tree.now in
    let fs = a.frames.now.items in
    let fs2 = c.evaluate_binary.new.frames.items in
    let s = a.heap.now in
    let s2 = c.evaluate_binary.new.heap in
    let left = a.budget.now in
    let left2 = c.evaluate_binary.new.budget in
    let job = jobs.Expression a.node a.scope in
    let plan = binary_plan items k.op k.left k.right m.place a.scope in
    let e : item_at items a.node ≡ kept.Expression m.place m.expression = search rules in
    if-ok c.evaluate_binary.result c.evaluate_binary.ensures.means (λ step it.
    let more : Goes items fs plan s (left - 1) fs2 step s2 left2 = rw c.if-not-pay.ensures.paid at it in
    begins items fs fs fs2 (Do job Give) job s s2 left left2 step (enters_alone items fs job s left) (c.if-not-pay.ensures.enough.0 refl)
    (node_goes items fs fs2 (kept.Expression m.place m.expression) a.node a.scope plan s s s2 (left - 1) left2 step e
    (ap (λ (x : Expression). expression_plan items x a.node m.place a.scope) k.is) refl more))
