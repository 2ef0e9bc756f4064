use Rattle.std.proofs.Common.{◌≡◌, refl}
use Rattle.spec_model.specs.Plans.{raise}
use Rattle.spec_machine.proofs.Reaching.{comes_left}
use Rattle.spec_machine.proofs.terms.became_term.Goals as goal

pub returns-in_ok-step-in-Refused-clause-means : goal.returns-in_ok-step-in-Refused-clause-means
returns-in_ok-step-in-Refused-clause-means c =
    let a = c.args in
    rw c.in-Refused.is (comes_left (raise a.at c.in-Refused.fault) c.in_ok-step-in-Refused.step a.world.now c.raise.new.world
    a.budget.now c.raise.new.budget c.in_ok-step-in-Refused.ensures.means)
