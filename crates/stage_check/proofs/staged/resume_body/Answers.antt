use Rattle.tl_base.specs.Layer.{given}
use Rattle.stage_form.specs.Within.{given_part}
use Rattle.stage_code.proofs.Turning.{goes_on, asks}
use Rattle.check_expr.specs.Rest.{body_rest}
use Rattle.stage_check.specs.Layers.{body_fitting}
use Rattle.stage_check.proofs.Keeping.{keeps_body}
use Rattle.stage_check.proofs.staged.resume_body.Goals as goal

pub returns-clause-goes_on : goal.returns-clause-goes_on
returns-clause-goes_on c =
    let a = c.args in
    let first = given a.answer a.typing.now a.budget.now in
    let turn = c.in_ok-turn.ensures in
    rw c.body_turn.ensures
    (goes_on body_fitting (body_rest a.body.now) (body_rest c.resume.new.self) first c.in_ok-turn.turn _ turn.turn turn.goes_on)

pub returns-clause-fits_next : goal.returns-clause-fits_next
returns-clause-fits_next c =
    rw c.body_turn.ensures
    (asks body_fitting c.in_ok-turn.turn _ _ (λ q fits next other. fits (given_part body_fitting next) other)
    c.in_ok-turn.ensures.fits_next)

pub returns-clause-kept : goal.returns-clause-kept
returns-clause-kept c =
    keeps_body c.args.typing.now c.resume.new.world c.in_ok-turn.ensures.kept
