use Rattle.tl_tree.specs.Arena.{items_of}
use Rattle.tl_tree.proofs.Searching.{binder_finds}
use Rattle.tl_tree.proofs.binding_laws.binder_finds.Goals as goal

pub returns : goal.returns
returns c = binder_finds (items_of c.args.tree.now)
