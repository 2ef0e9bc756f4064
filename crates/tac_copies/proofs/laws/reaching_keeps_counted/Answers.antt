use Rattle.tac_copies.proofs.ReachedKeepsCounted.{reached-counted}
use Rattle.tac_copies.proofs.laws.reaching_keeps_counted.Goals as goal

pub returns : goal.returns
returns c = reached-counted
