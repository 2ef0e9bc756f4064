use Rattle.tac_copies.proofs.DirectedKeepsSized.{directed-sized}
use Rattle.tac_copies.proofs.laws.directing_keeps_sized.Goals as goal

pub returns : goal.returns
returns c = directed-sized
