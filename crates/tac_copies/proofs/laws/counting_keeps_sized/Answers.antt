use Rattle.tac_copies.proofs.CountingKeeps.{counting-sized}
use Rattle.tac_copies.proofs.laws.counting_keeps_sized.Goals as goal

pub returns : goal.returns
returns c = counting-sized
