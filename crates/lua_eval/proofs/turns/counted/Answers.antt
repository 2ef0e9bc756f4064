use Rattle.tl_tree.specs.Arena.{items_of}
use Rattle.lua_table.proofs.Keeping.{keeps_then}
use Rattle.lua_eval.specs.Turns.{counted_plan, turned_plan}
use Rattle.lua_eval.proofs.AtOnce.{passed}
use Rattle.tl_base.proofs.Results.{if-ok, on-ok}
use Rattle.lua_eval.proofs.turns.counted.Goals as goal

pub returns-clause-means : goal.returns-clause-means
returns-clause-means c =
    let a = c.args in
    let items = items_of a.tree.now in
    let turned = c.in_ok-turned.turned in
    let at = c.turns.new.at in
    let r = c.turn_on in
    if-ok r.result r.ensures.means (λ step it.
    passed items a.frames.now.items r.new.frames.items (counted_plan items a.block a.node a.scope a.first a.limit a.by a.out)
    (turned_plan turned at a.node a.scope a.limit a.by a.out) a.heap.now c.turns.new.heap r.new.heap a.budget.now c.turns.new.budget
    r.new.budget step (c.in_ok-turned.ensures.passes a.out) it)

pub returns-clause-kept : goal.returns-clause-kept
returns-clause-kept c =
    on-ok c.turn_on.result c.turn_on.ensures.kept (λ kept.
    keeps_then c.args.heap.now c.turns.new.heap c.turn_on.new.heap c.in_ok-turned.ensures.kept kept)
