use Rattle.tl_tree.specs.Arena.{items_of}
use Rattle.tl_tree.proofs.OnlyNames.{only_names_have_binders}
use Rattle.tl_tree.proofs.binding_laws.only_names_have_binders.Goals as goal

pub returns : goal.returns
returns c = only_names_have_binders (items_of c.args.tree.now)
