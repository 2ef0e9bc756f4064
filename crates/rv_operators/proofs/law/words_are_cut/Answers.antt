use Rattle.rv_operators.proofs.Cuts.{cut-is}
use Rattle.rv_operators.proofs.Short.{cut-short}
use Rattle.rv_operators.proofs.law.words_are_cut.Goals as goal

pub returns-clause-cuts : goal.returns-clause-cuts
returns-clause-cuts c d w h n = cut-is w.signed w.bits h d n

pub returns-clause-short : goal.returns-clause-short
returns-clause-short c d w = (cut-short d w).short

pub returns-clause-straight : goal.returns-clause-straight
returns-clause-straight c d w = (cut-short d w).straight
