use Rattle.exotype.specs.declared.fault.Fault.TheVariants.{NotAType}
use Rattle.spec_model.specs.Plans.{raise}
use Rattle.spec_machine.proofs.Reaching.{comes_left}
use Rattle.spec_machine.proofs.types.no_type.Goals as goal

pub returns-clause-means : goal.returns-clause-means
returns-clause-means c =
    let a = c.args in
    comes_left (raise a.at NotAType) c.in_ok-step.step a.world.now c.raise.new.world a.budget.now c.raise.new.budget c.in_ok-step.ensures.means
