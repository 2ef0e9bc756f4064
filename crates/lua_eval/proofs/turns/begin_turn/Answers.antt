use Rattle.std.proofs.Common.{refl}
use Rattle.tl_tree.specs.Arena.{items_of}
use Rattle.tl_tree.specs.Nodes.{item_at}
use Rattle.lua_model.specs.declared.job.Loop.TheVariants as loops
use Rattle.lua_model.specs.Loops.{turn_plan}
use Rattle.lua_eval.specs.Turns.{counted_plan}
use Rattle.lua_eval.proofs.Below.{moved}
use Rattle.tl_base.proofs.Results.{if-ok}
use Rattle.lua_eval.proofs.turns.begin_turn.Goals as goal

pub returns-in-Some-clause-means : goal.returns-in-Some-clause-means
returns-in-Some-clause-means c =
    let a = c.args in
    let m = c.in-Counted in
    let items = items_of a.tree.now in
    let block = c.in-Some.block in
    rw m.is (if-ok c.counted.result c.counted.ensures.means (λ v it. moved items a.frames.now.items c.counted.new.frames.items
    (turn_plan items (item_at items a.node) a.node a.scope (loops.Counted m.at m.limit m.by) a.out)
    (counted_plan items block a.node a.scope m.at m.limit m.by a.out) a.heap.now a.heap.now c.counted.new.heap
    a.budget.now c.counted.new.budget v
    (c.in-Some.ensures a.scope m.at m.limit m.by a.out) refl it))
