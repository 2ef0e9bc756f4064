use Rattle.rv_select.proofs.Within.{parameters-within}
use Rattle.rv_select.proofs.law.parameters_keep_within.Goals as goal

pub returns : goal.returns
returns c = parameters-within
