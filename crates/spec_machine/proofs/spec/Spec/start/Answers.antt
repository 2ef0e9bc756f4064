use Rattle.spec_machine.proofs.spec.Spec.start.Goals as goal

pub returns-clause-means : goal.returns-clause-means
returns-clause-means c = λ first later. rw c.new.ensures at c.start.ensures.means first later
