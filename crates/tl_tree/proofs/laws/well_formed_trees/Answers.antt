use Rattle.tl_tree.proofs.WellFormedTrees.{well_formed_trees}
use Rattle.tl_tree.proofs.laws.well_formed_trees.Goals as goal

pub returns : goal.returns
returns c = well_formed_trees c.args.text.now
