use Rattle.std.proofs.Common.{refl, sym}
use Rattle.tl_tree.specs.Arena.{items_of}
use Rattle.lua_value.specs.declared.value.Value.{Value}
use Rattle.lua_model.specs.Plans.{LuaPlan, value_of}
use Rattle.lua_model.specs.Operators.{binary_plan}
use Rattle.lua_eval.specs.Frames.{with_left}
use Rattle.lua_eval.proofs.AtOnce.{behind_value}
use Rattle.lua_eval.proofs.Below.{moved}
use Rattle.lua_eval.proofs.Counting.{binary_is}
use Rattle.tl_base.proofs.Results.{if-ok}
use Rattle.lua_eval.proofs.expressions.evaluate_binary.Goals as goal

pub returns-in-Some-clause-means : goal.returns-in-Some-clause-means
returns-in-Some-clause-means c =
    let a = c.args in
    let items = items_of a.tree.now in
    let fs = a.frames.now.items in
    let fs2 = c.with_left.new.frames.items in
    let s = a.heap.now in
    let t = c.operand_at_once.new.heap in
    let s2 = c.with_left.new.heap in
    let mid = c.operand_at_once.new.budget in
    let left2 = c.with_left.new.budget in
    let v = c.in-Some.value in
    let plan : Value → LuaPlan = λ w. with_left items a.op a.right a.place a.scope w in
    if-ok c.with_left.result c.with_left.ensures.means (λ step it.
    moved items fs fs2 (binary_plan items a.op a.left a.right a.place a.scope) (value_of a.left a.scope plan) s s s2 a.budget.now left2 step
    (binary_is items a.op a.left a.right a.place a.scope) refl
    (behind_value items fs fs2 a.left a.scope v plan s s s2 a.budget.now mid left2 step refl c.in-Some.ensures.found
    (moved items fs fs2 (plan v) (plan v) s t s2 mid left2 step refl (sym c.in-Some.ensures.same) it)))

pub returns-in-None-clause-means : goal.returns-in-None-clause-means
returns-in-None-clause-means c =
    if-ok c.call_left.result c.call_left.ensures.means (λ step it. rw (c.in-None.ensures.none, c.in-None.ensures.same) at it)
