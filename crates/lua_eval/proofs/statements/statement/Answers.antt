use Rattle.std.proofs.Common.{◌≡◌, refl, ap, rules}
use Rattle.tl_tree.specs.Arena.{items_of}
use Rattle.tl_tree.specs.Item.{Item}
use Rattle.tl_tree.specs.Item as kept
use Rattle.tl_tree.specs.Nodes.{item_at}
use Rattle.lua_model.specs.Statements.{statement_of, statement_plan}
use Rattle.lua_eval.proofs.Below.{moved}
use Rattle.tl_base.proofs.Results.{if-ok}
use Rattle.lua_eval.proofs.statements.statement.Goals as goal

pub returns-in-Statement-clause-means : goal.returns-in-Statement-clause-means
returns-in-Statement-clause-means c =
    let a = c.args in
    let m = c.in-Statement in
    let items = items_of a.tree.now in
    let e : item_at items a.node ≡ kept.Statement m.place m.statement = search rules in
    let r = c.execute in
    if-ok r.result r.ensures.means (λ step it.
    moved items a.frames.now.items r.new.frames.items (statement_plan items (item_at items a.node) a.node a.scope)
    (statement_of items m.statement a.node m.place a.scope) a.heap.now a.heap.now r.new.heap a.budget.now r.new.budget step
    (ap (λ (i : Item). statement_plan items i a.node a.scope) e) refl it)
