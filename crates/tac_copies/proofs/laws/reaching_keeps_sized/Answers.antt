use Rattle.tac_copies.proofs.ReachedKeepsSized.{reached-sized}
use Rattle.tac_copies.proofs.laws.reaching_keeps_sized.Goals as goal

pub returns : goal.returns
returns c = reached-sized
