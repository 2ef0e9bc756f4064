use Rattle.std.proofs.Common.{ap, refl, Option}
use Rattle.tl_base.specs.declared.ids.NodeId.{NodeId}
use Rattle.tl_base.specs.Plan.{Give}
use Rattle.tl_tree.specs.Arena.{items_of}
use Rattle.lua_model.specs.Statements.{block_plan, otherwise_plan}
use Rattle.lua_eval.proofs.Below.{moved}
use Rattle.lua_eval.proofs.statements.otherwise_block.Goals as goal

pub returns-in_ok-step-in-Some-clause-means : goal.returns-in_ok-step-in-Some-clause-means
returns-in_ok-step-in-Some-clause-means c = λ left.
    let a = c.args in
    let items = items_of a.tree.now in
    moved items a.frames.now.items c.block.new.frames.items (otherwise_plan items a.otherwise a.scope)
    (block_plan items c.in-Some.node a.scope Give) a.heap.now a.heap.now c.block.new.heap left left c.in_ok-step-in-Some.step
    (ap (λ (o : Option NodeId). otherwise_plan items o a.scope) c.in-Some.is) refl (c.in_ok-step-in-Some.ensures.means left)
