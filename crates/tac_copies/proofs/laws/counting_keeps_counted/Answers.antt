use Rattle.tac_copies.proofs.CountingKeeps.{counting-counted}
use Rattle.tac_copies.proofs.laws.counting_keeps_counted.Goals as goal

pub returns : goal.returns
returns c = counting-counted
