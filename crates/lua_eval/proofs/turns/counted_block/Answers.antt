use Rattle.std.proofs.Common.{◌≡◌, rules}
use Rattle.tl_tree.specs.Arena.{items_of}
use Rattle.tl_tree.specs.Item as kept
use Rattle.tl_tree.specs.Nodes.{item_at}
use Rattle.lua_eval.proofs.AtOnce.{if-some}
use Rattle.lua_eval.proofs.Counted.{counted_at}
use Rattle.lua_eval.proofs.turns.counted_block.Goals as goal

pub returns-in-Statement : goal.returns-in-Statement
returns-in-Statement c =
    let a = c.args in
    let m = c.in-Statement in
    let items = items_of a.tree.now in
    let e : item_at items a.node ≡ kept.Statement m.field-0 m.statement = search rules in
    if-some c.block_in.result c.block_in.ensures (λ block h. counted_at items a.node block m.field-0 m.statement e h)
