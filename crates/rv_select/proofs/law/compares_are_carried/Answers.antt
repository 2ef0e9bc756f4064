use Rattle.rv_select.proofs.Compares.{compares}
use Rattle.rv_select.proofs.law.compares_are_carried.Goals as goal

pub returns : goal.returns
returns c = compares
