use Rattle.std.proofs.Common.{◌≡◌, rules, ap, ◌∙◌}
use Rattle.tl_tree.specs.Arena.{items_of}
use Rattle.tl_tree.specs.Item.{Item}
use Rattle.tl_tree.specs.Item as kept
use Rattle.tl_tree.specs.Nodes.{item_at}
use Rattle.lua_model.specs.Statements.{statement_plan}
use Rattle.lua_eval.proofs.AtOnce.{if-some}
use Rattle.lua_eval.proofs.running.returned_node.Goals as goal

pub returns-in-Statement : goal.returns-in-Statement
returns-in-Statement c =
    let a = c.args in
    let m = c.in-Statement in
    let items = items_of a.tree.now in
    let e : item_at items a.node ≡ kept.Statement m.field-0 m.statement = search rules in
    if-some c.returned_in.result c.returned_in.ensures (λ value h scope.
    ap (λ (i : Item). statement_plan items i a.node scope) e ∙ h items a.node m.field-0 scope)
