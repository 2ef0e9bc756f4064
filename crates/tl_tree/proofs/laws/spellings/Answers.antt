use Rattle.std.proofs.Common.{refl}
use Rattle.tl_tree.proofs.laws.spellings.Goals as goal

pub returns : goal.returns
returns c = (refl, refl)
