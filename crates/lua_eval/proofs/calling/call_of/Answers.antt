use Rattle.std.proofs.Common.{arith, ◌≡◌, rules}
use Rattle.tl_tree.specs.Arena.{items_of}
use Rattle.tl_tree.specs.Item as kept
use Rattle.tl_tree.specs.Nodes.{item_at}
use Rattle.lua_eval.proofs.AtOnce.{if-some}
use Rattle.lua_eval.proofs.Waited.{call_entered}
use Rattle.lua_eval.proofs.calling.call_of.Goals as goal

pub returns-in_ok-called-in-Expression-clause-passes : goal.returns-in_ok-called-in-Expression-clause-passes
returns-in_ok-called-in-Expression-clause-passes c =
    let a = c.args in
    let m = c.in-Expression in
    let items = items_of a.tree.now in
    let e : item_at items a.node ≡ kept.Expression m.place m.expression = search rules in
    if-some c.in_ok-called-in-Expression.called c.in_ok-called-in-Expression.ensures.passes (λ called h go.
    call_entered items a.node a.scope.now m.place m.expression called c.call_in.new.given go a.heap.now c.call_in.new.heap a.left c.call_in.new.budget
    e (omega (arith, c.if-left-eq0.false)) (h a.node))
