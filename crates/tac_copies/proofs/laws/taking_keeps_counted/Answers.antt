use Rattle.tac_copies.proofs.TakenKeepsCounted.{taken-counted}
use Rattle.tac_copies.proofs.laws.taking_keeps_counted.Goals as goal

pub returns : goal.returns
returns c = taken-counted
