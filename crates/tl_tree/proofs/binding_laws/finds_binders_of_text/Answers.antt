use Rattle.tl_tree.proofs.Known.{finds_binders_of_text}
use Rattle.tl_tree.proofs.binding_laws.finds_binders_of_text.Goals as goal

pub returns : goal.returns
returns c = finds_binders_of_text c.args.text.now
