use Rattle.tac_counts.proofs.Needing.{goes, more, without}
use Rattle.tac_counts.proofs.laws.steps_take_counts.Goals as goal

pub returns-clause-goes : goal.returns-clause-goes
returns-clause-goes c = goes

pub returns-clause-more : goal.returns-clause-more
returns-clause-more c = more

pub returns-clause-none : goal.returns-clause-none
returns-clause-none c = without
