use Rattle.std.proofs.Common.{[], sym, subst}
use Rattle.tl_tree.specs.Arena.{items_of}
use Rattle.tl_rename.specs.Latest.{IsIndexed}
use Rattle.tl_rename.proofs.Keyed.{none_indexed}
use Rattle.tl_rename.proofs.index.new_index.Goals as goal

pub returns : goal.returns
returns c =
    let items = items_of c.args.tree.now in
    subst (λ es. IsIndexed items es c.loop-node.reached.items) (sym c.new.ensures)
    (subst (λ l. IsIndexed items [] l) (sym c.loop-node.invariant) (none_indexed items c.loop-node._node))
