use Rattle.tl_tree.specs.Arena.{items_of}
use Rattle.tl_tree.proofs.BindingAlike.{bound_determines}
use Rattle.tl_tree.proofs.binding_laws.bound_determines_binders.Goals as goal

pub returns : goal.returns
returns c = bound_determines (items_of c.args.tree.now) (items_of c.args.other.now)
