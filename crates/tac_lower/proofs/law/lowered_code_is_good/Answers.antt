use Rattle.tac_lower.proofs.Good.{lowered-good}
use Rattle.tac_lower.proofs.law.lowered_code_is_good.Goals as goal

pub returns : goal.returns
returns c = lowered-good
