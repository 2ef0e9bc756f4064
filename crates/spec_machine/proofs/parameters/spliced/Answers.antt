use Rattle.std.proofs.Common.{◌-◌, sym, ◌∙◌}
use Rattle.spec_machine.proofs.Defining as defining
use Rattle.spec_machine.proofs.parameters.spliced.Goals as goal

pub returns-in-Some-clause-means : goal.returns-in-Some-clause-means
returns-in-Some-clause-means c =
    let a = c.args in
    let w = a.world.now in
    λ f go later.
    defining.spliced_gets w a.symbols.now a.at a.drawn c.in-Some.drawn (sym c.in-Some.is ∙ c.in_ok-typed.ensures) f go a.budget.now later

pub returns-in_ok-step-in-None-clause-means : goal.returns-in_ok-step-in-None-clause-means
returns-in_ok-step-in-None-clause-means c =
    let a = c.args in
    λ items go fs.
    defining.spliced_raises items fs fs a.world.now c.raise.new.world a.budget.now c.raise.new.budget c.in_ok-step-in-None.step
    a.symbols.now a.at a.drawn go (sym c.in-None.is ∙ c.in_ok-typed.ensures) (c.in_ok-step-in-None.ensures.means items fs)
