use Rattle.tl_tree.proofs.Laying.{lays_children_first}
use Rattle.tl_tree.proofs.laws.children_first.Goals as goal

pub returns : goal.returns
returns c = lays_children_first
