use Rattle.tl_base.specs.Layer.{given}
use Rattle.stage_form.specs.Within.{given_part}
use Rattle.stage_code.proofs.Turning.{goes_on, asks}
use Rattle.stage_check.specs.Results.{result_rest}
use Rattle.stage_check.specs.Layers.{result_fitting}
use Rattle.stage_check.proofs.Keeping.{keeps_body}
use Rattle.stage_check.proofs.staged.resume_result.Goals as goal

pub returns-clause-goes_on : goal.returns-clause-goes_on
returns-clause-goes_on c =
    let a = c.args in
    let first = given a.answer a.typing.now a.budget.now in
    let turn = c.in_ok-turn.ensures in
    rw c.result_turn.ensures
    (goes_on result_fitting (result_rest a.finding.now) (result_rest c.resume.new.self) first c.in_ok-turn.turn _ turn.turn turn.goes_on)

pub returns-clause-fits_next : goal.returns-clause-fits_next
returns-clause-fits_next c =
    rw c.result_turn.ensures
    (asks result_fitting c.in_ok-turn.turn _ _ (λ q fits next other. fits (given_part result_fitting next) other)
    c.in_ok-turn.ensures.fits_next)

pub returns-clause-kept : goal.returns-clause-kept
returns-clause-kept c =
    keeps_body c.args.typing.now c.resume.new.typing c.in_ok-turn.ensures.kept
