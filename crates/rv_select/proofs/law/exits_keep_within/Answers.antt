use Rattle.rv_select.proofs.Weights.{exits-within}
use Rattle.rv_select.proofs.law.exits_keep_within.Goals as goal

pub returns : goal.returns
returns c = exits-within
