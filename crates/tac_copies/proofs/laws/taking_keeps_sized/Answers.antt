use Rattle.tac_copies.proofs.TakenKeepsSized.{taken-sized}
use Rattle.tac_copies.proofs.laws.taking_keeps_sized.Goals as goal

pub returns : goal.returns
returns c = taken-sized
