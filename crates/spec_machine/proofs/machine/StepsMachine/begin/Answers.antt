use Rattle.spec_machine.proofs.machine.StepsMachine.begin.Goals as goal

pub returns-in_ok-step-in-Expression-clause-means : goal.returns-in_ok-step-in-Expression-clause-means
returns-in_ok-step-in-Expression-clause-means c = rw c.in-Expression.is c.in_ok-step-in-Expression.ensures.means

pub returns-in_ok-step-in-Statement-clause-means : goal.returns-in_ok-step-in-Statement-clause-means
returns-in_ok-step-in-Statement-clause-means c = rw c.in-Statement.is c.in_ok-step-in-Statement.ensures.means
