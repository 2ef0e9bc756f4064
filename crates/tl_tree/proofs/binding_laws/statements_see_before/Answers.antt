use Rattle.tl_tree.specs.Arena.{items_of}
use Rattle.tl_tree.proofs.Seeing.{statements_see_before}
use Rattle.tl_tree.proofs.binding_laws.statements_see_before.Goals as goal

pub returns : goal.returns
returns c = statements_see_before (items_of c.args.tree.now)
