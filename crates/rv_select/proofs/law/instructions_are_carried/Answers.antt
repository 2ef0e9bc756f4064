use Rattle.rv_select.proofs.Carries.{instructions}
use Rattle.rv_select.proofs.law.instructions_are_carried.Goals as goal

pub returns : goal.returns
returns c = instructions
