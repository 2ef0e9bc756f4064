use Rattle.rv_select.proofs.Leaves.{exits}
use Rattle.rv_select.proofs.law.exits_are_carried.Goals as goal

pub returns : goal.returns
returns c = exits
