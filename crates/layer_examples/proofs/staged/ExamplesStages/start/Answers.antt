use Rattle.std.proofs.Common.{refl}
use Rattle.tl_base.specs.Layer.{at, state}
use Rattle.layer_examples.specs.declared.end.Answer.TheVariants.{Go}
use Rattle.layer_examples.specs.declared.sums.SumAnswer.TheVariants.{Go as SumGo}
use Rattle.stage_form.proofs.Standing.{within_same}
use Rattle.layer_examples.specs.Total.{total}
use Rattle.layer_examples.specs.Nest.{nest}
use Rattle.layer_examples.specs.Sums.{sum}
use Rattle.layer_examples.specs.Rest.{total_rest, nest_rest, sum_rest}
use Rattle.layer_examples.specs.Staged.{total_fitting, nest_fitting, sum_fitting}
use Rattle.layer_examples.proofs.staged.ExamplesStages.start.Goals as goal

-- each layer means what its task does
pub returns-in-SumUp-clause-means : goal.returns-in-SumUp-clause-means
returns-in-SumUp-clause-means c = λ first later.
    rw c.in-SumUp.is (within_same total_fitting (total_rest c.start.result) (total c.args.self.now.table.now c.in-SumUp.from) c.start.ensures.means first later)

pub returns-in-Descend-clause-means : goal.returns-in-Descend-clause-means
returns-in-Descend-clause-means c = λ first later.
    rw c.in-Descend.is (within_same nest_fitting (nest_rest c.start-in-Descend.result) (nest c.in-Descend.depth) c.start-in-Descend.ensures.means first later)

pub returns-in-Add-clause-means : goal.returns-in-Add-clause-means
returns-in-Add-clause-means c = λ first later.
    rw c.in-Add.is (within_same sum_fitting (sum_rest c.start-in-Add.result) (sum c.in-Add.numbers) c.start-in-Add.ensures.means first later)

-- each layer begins with `Go`
pub returns-in-SumUp-clause-fits : goal.returns-in-SumUp-clause-fits
returns-in-SumUp-clause-fits c = λ s begins. c.start.ensures.fits (at Go s) refl

pub returns-in-Descend-clause-fits : goal.returns-in-Descend-clause-fits
returns-in-Descend-clause-fits c = λ s begins. c.start-in-Descend.ensures.fits (at Go s) refl

pub returns-in-Add-clause-fits : goal.returns-in-Add-clause-fits
returns-in-Add-clause-fits c = λ s begins. c.start-in-Add.ensures.fits (at SumGo (state s.world.given s.left)) refl
