use Rattle.tac_counts.specs.Counts.{counting}
use Rattle.tac_counts.proofs.Lifting.{fewer, none}
use Rattle.tac_counts.proofs.laws.fewer_counts_are_left.Goals as goal

pub returns-clause-fewer : goal.returns-clause-fewer
returns-clause-fewer c = λ p k n c s e out. fewer p k c (counting n s) e out

pub returns-clause-none : goal.returns-clause-none
returns-clause-none c = λ p k n s e out. none p k (counting n s) e out
