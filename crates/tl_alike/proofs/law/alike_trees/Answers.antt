use Rattle.tl_alike.proofs.law.alike_trees.Goals as goal
use Rattle.tl_alike.proofs.AlikeTrees as trees

pub returns : goal.returns
returns c = trees.alike_trees
