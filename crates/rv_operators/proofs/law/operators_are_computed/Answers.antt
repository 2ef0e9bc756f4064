use Rattle.rv_operators.proofs.Operators.{computed}
use Rattle.rv_operators.proofs.Short.{code-short}
use Rattle.rv_operators.proofs.law.operators_are_computed.Goals as goal

pub returns-clause-computes : goal.returns-clause-computes
returns-clause-computes c d a b w op h p = computed d a b w op h p

pub returns-clause-short : goal.returns-clause-short
returns-clause-short c d a b w op = (code-short d a b w op).short

pub returns-clause-straight : goal.returns-clause-straight
returns-clause-straight c d a b w op = (code-short d a b w op).straight
