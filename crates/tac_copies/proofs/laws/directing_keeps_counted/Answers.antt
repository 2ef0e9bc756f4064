use Rattle.tac_copies.proofs.DirectedKeepsCounted.{directed-counted}
use Rattle.tac_copies.proofs.laws.directing_keeps_counted.Goals as goal

pub returns : goal.returns
returns c = directed-counted
