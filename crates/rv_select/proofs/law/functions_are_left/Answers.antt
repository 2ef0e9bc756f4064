use Rattle.rv_select.proofs.Entrances.{functions-left}
use Rattle.rv_select.proofs.law.functions_are_left.Goals as goal

pub returns : goal.returns
returns c = functions-left
