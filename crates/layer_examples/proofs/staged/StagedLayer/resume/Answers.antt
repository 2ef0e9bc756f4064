use Rattle.layer_examples.specs.Staged.{sum_fitting}
use Rattle.stage_form.specs.Within.{given_part}
use Rattle.layer_examples.proofs.Answers.{sum_answers}
use Rattle.layer_examples.proofs.staged.StagedLayer.resume.Goals as goal

-- an answer to a sum is one of the stage
pub returns-in-Ask-3-clause-fits_next : goal.returns-in-Ask-3-clause-fits_next
returns-in-Ask-3-clause-fits_next c = λ next other.
    (rw c.in-Ask-3.is at c.in_ok-end-in-Sum.ensures.fits_next) (given_part sum_fitting next) (sum_answers next.answer other)
