use Rattle.rv_select.proofs.Weights.{within}
use Rattle.rv_select.proofs.law.shapes_keep_within.Goals as goal

pub returns : goal.returns
returns c = within
