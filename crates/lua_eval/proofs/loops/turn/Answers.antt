use Rattle.std.proofs.Common.{◌≡◌, refl, sym, ap, ◌∙◌}
use Rattle.tl_tree.specs.Arena.{items_of}
use Rattle.tl_tree.specs.Item.{Item}
use Rattle.tl_tree.specs.Item as kept
use Rattle.tl_tree.specs.Nodes.{item_at, item_of}
use Rattle.lua_model.specs.Loops.{turn_plan, turn_of}
use Rattle.lua_eval.proofs.Below.{moved}
use Rattle.tl_base.proofs.Results.{if-ok}
use Rattle.lua_eval.proofs.loops.turn.Goals as goal

pub returns-in-Statement-clause-means : goal.returns-in-Statement-clause-means
returns-in-Statement-clause-means c =
    let a = c.args in
    let m = c.in-Statement in
    let items = items_of a.tree.now in
    let e : item_at items a.node ≡ kept.Statement m.place m.statement = sym c.node.ensures ∙ ap item_of m.is in
    if-ok c.turn_of.result c.turn_of.ensures.means (λ v it. moved items a.frames.now.items c.turn_of.new.frames.items (turn_plan items (item_at items a.node) a.node a.scope a.turn a.out)
    (turn_of items m.statement a.node m.place a.scope a.turn a.out) a.heap.now a.heap.now c.turn_of.new.heap a.budget.now c.turn_of.new.budget
    v
    (ap (λ (i : Item). turn_plan items i a.node a.scope a.turn a.out) e) refl it)
