use Rattle.std.proofs.Common.{refl, sym}
use Rattle.tl_tree.specs.Arena.{items_of}
use Rattle.lua_value.specs.declared.value.Value.{Value}
use Rattle.lua_model.specs.Plans.{LuaPlan}
use Rattle.lua_eval.specs.CallPlans.{method_call}
use Rattle.lua_eval.proofs.AtOnce.{behind_value}
use Rattle.lua_eval.proofs.Below.{moved}
use Rattle.tl_base.proofs.Results.{if-ok}
use Rattle.lua_eval.proofs.callees.evaluate_method.Goals as goal

pub returns-in-Some-clause-means : goal.returns-in-Some-clause-means
returns-in-Some-clause-means c =
    let a = c.args in
    let items = items_of a.tree.now in
    let fs = a.frames.now.items in
    let fs2 = c.with_object.new.frames.items in
    let s = a.heap.now in
    let t = c.operand_at_once.new.heap in
    let s2 = c.with_object.new.heap in
    let mid = c.operand_at_once.new.budget in
    let left2 = c.with_object.new.budget in
    let v = c.in-Some.value in
    let plan : Value → LuaPlan = λ o. method_call items o a.method a.arguments.now a.place a.scope in
    if-ok c.with_object.result c.with_object.ensures.means (λ step it.
    behind_value items fs fs2 a.object a.scope v plan s s s2 a.budget.now mid left2 step refl c.in-Some.ensures.found
    (moved items fs fs2 (plan v) (plan v) s t s2 mid left2 step refl (sym c.in-Some.ensures.same) it))
