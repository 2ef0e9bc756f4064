use Rattle.rv_select.proofs.Compares.{compares-within}
use Rattle.rv_select.proofs.law.compares_keep_within.Goals as goal

pub returns : goal.returns
returns c = compares-within
