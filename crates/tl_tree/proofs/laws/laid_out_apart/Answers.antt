use Rattle.tl_tree.proofs.Laying.{is_laid_out_apart}
use Rattle.tl_tree.proofs.laws.laid_out_apart.Goals as goal

pub returns : goal.returns
returns c = is_laid_out_apart
