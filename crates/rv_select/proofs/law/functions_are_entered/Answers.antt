use Rattle.rv_select.proofs.Entrances.{functions-entered}
use Rattle.rv_select.proofs.law.functions_are_entered.Goals as goal

pub returns : goal.returns
returns c = functions-entered
