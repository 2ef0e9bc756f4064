use Rattle.std.proofs.Common.{refl, sym}
use Rattle.tl_tree.specs.Arena.{items_of}
use Rattle.lua_value.specs.declared.value.Value.{Value}
use Rattle.lua_model.specs.Plans.{LuaPlan}
use Rattle.lua_model.specs.Operators.{operate}
use Rattle.lua_eval.proofs.AtOnce.{behind_value}
use Rattle.lua_eval.proofs.Below.{moved}
use Rattle.tl_base.proofs.Results.{if-ok}
use Rattle.lua_eval.proofs.expressions.evaluate_right.Goals as goal

pub returns-in-Some-clause-means : goal.returns-in-Some-clause-means
returns-in-Some-clause-means c =
    let a = c.args in
    let items = items_of a.tree.now in
    let fs = a.frames.now.items in
    let fs2 = c.operate.new.frames.items in
    let s = a.heap.now in
    let t = c.operand_at_once.new.heap in
    let s2 = c.operate.new.heap in
    let mid = c.operand_at_once.new.budget in
    let left2 = c.operate.new.budget in
    let other = c.in-Some.other in
    let plan : Value → LuaPlan = λ b. operate items a.op a.value b a.place a.scope.call in
    if-ok c.operate.result c.operate.ensures.means (λ step it.
    behind_value items fs fs2 a.right a.scope other plan s s s2 a.budget.now mid left2 step refl c.in-Some.ensures.found
    (moved items fs fs2 (plan other) (plan other) s t s2 mid left2 step refl (sym c.in-Some.ensures.same) it))

pub returns-in-None-clause-means : goal.returns-in-None-clause-means
returns-in-None-clause-means c =
    if-ok c.call_right.result c.call_right.ensures.means (λ step it. rw (c.in-None.ensures.none, c.in-None.ensures.same) at it)
