use Rattle.std.proofs.Common.{refl, ap, List}
use Rattle.tl_base.specs.declared.ids.NodeId.{NodeId}
use Rattle.tl_tree.specs.Arena.{items_of}
use Rattle.spec_machine.specs.Frames.{block_plan, block_then}
use Rattle.spec_machine.proofs.Doing.{moved}
use Rattle.tl_base.proofs.Results.{carried}
use Rattle.spec_machine.proofs.Pushing.{none_is, block_enters}
use Rattle.spec_machine.proofs.blocks.statements.Goals as goal

pub returns-in-None-clause-means : goal.returns-in-None-clause-means
returns-in-None-clause-means c =
    let a = c.args in
    let items = items_of a.tree.now in
    carried _ _ c.with_block.result c.with_block.ensures.means (λ step g.
    moved items a.frames.now.items c.with_block.new.frames.items (block_plan items a.nodes.now a.env a.terms a.then)
    (block_then items a.then a.env a.terms) a.world.now a.world.now c.with_block.new.world a.budget.now c.with_block.new.budget step
    (ap (λ (ns : List NodeId). block_plan items ns a.env a.terms a.then) (none_is a.nodes.now c.in-None.ensures.cases)) refl g)

pub returns-in_ok-push-in-Some-clause-means : goal.returns-in_ok-push-in-Some-clause-means
returns-in_ok-push-in-Some-clause-means c =
    let a = c.args in
    let items = items_of a.tree.now in
    block_enters items a.frames.now.items c.push.new.self.items a.nodes.now c.in-Some.first.now
    (record { rest = c.in-Some.rest; env = a.env; terms = a.terms; then = a.then }) a.world.now a.budget.now
    c.in-Some.ensures.cases.0 c.in_ok-push-in-Some.ensures.items
