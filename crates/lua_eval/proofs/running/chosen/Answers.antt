use Rattle.std.proofs.Common.{arith, ◌≡◌, rules}
use Rattle.tl_tree.specs.Arena.{items_of}
use Rattle.tl_tree.specs.Item as kept
use Rattle.tl_tree.specs.Nodes.{item_at}
use Rattle.lua_eval.proofs.AtOnce.{if-some}
use Rattle.lua_eval.proofs.Reached.{statement_entered}
use Rattle.lua_eval.proofs.running.chosen.Goals as goal

pub returns-in_ok-entered-in-Statement-clause-passes : goal.returns-in_ok-entered-in-Statement-clause-passes
returns-in_ok-entered-in-Statement-clause-passes c =
    let a = c.args in
    let m = c.in-Statement in
    let items = items_of a.tree.now in
    let e : item_at items a.node ≡ kept.Statement m.field-0 m.statement = search rules in
    if-some c.in_ok-entered-in-Statement.entered c.in_ok-entered-in-Statement.ensures.passes (λ entered h go.
    statement_entered items a.node a.scope.now m.field-0 m.statement entered go a.heap.now c.chosen_by.new.heap a.budget.now c.chosen_by.new.budget
    e (omega (arith, c.left-units.ensures, c.if-units-eq0.false)) (rw c.left-units.ensures at (h a.node m.field-0)))
