use Rattle.std.proofs.Common.{◌≡◌, List, ◌∷◌, subst}
use Rattle.tl_base.specs.declared.turn.Turn.{Turn}
use Rattle.tl_base.specs.Layer.{given, OnAsk}
use Rattle.stage_form.specs.Within.{given_part, within}
use Rattle.stage_code.specs.Layers.{turn_within}
use Rattle.stage_code.proofs.Turning.{goes_on}
use Rattle.stage_check.specs.declared.jobs.Asked.{Asked}
use Rattle.stage_check.specs.declared.jobs.JobEnd.{JobEnd}
use Rattle.stage_check.specs.Layers.{rest as job_rest}
use Rattle.stage_library.specs.Keeping.{KeepsStaging}
use Rattle.stage_check.proofs.Showing.{asks_more}
use Rattle.stage_model.specs.Stage.{StagingState, checking_fitting}
use Rattle.stage_loop.specs.contracts.world.Staging.{the_view}
use Rattle.stage_loop.specs.Layers.{StagingGiven}
use Rattle.stage_loop.proofs.Turning.{checking_same}
use Rattle.stage_loop.proofs.staged.resume_job.Goals as goal

pub returns-clause-goes_on : goal.returns-clause-goes_on
returns-clause-goes_on c =
    let a = c.args in
    let first = given a.answer (the_view c.staging.inside) a.budget.now in
    let old = job_rest a.layer.now in
    let rest = job_rest c.resume.new.self in
    let turn = c.in_ok-turn.ensures in
    subst
    (λ (t : Turn Asked JobEnd). OnAsk t (λ _. (next : StagingGiven) (later : List StagingGiven) →
    within checking_fitting old (given a.answer a.staging.now a.budget.now) (next ∷ later)
    ≡ within checking_fitting rest next later))
    (checking_same c.in_ok-turn.turn)
    (subst
    (λ (w : StagingState). OnAsk (turn_within checking_fitting c.in_ok-turn.turn)
    (λ _. (next : StagingGiven) (later : List StagingGiven) →
    within checking_fitting old (given a.answer w a.budget.now) (next ∷ later) ≡ within checking_fitting rest next later))
    c.staging.view_is (goes_on checking_fitting old rest first c.in_ok-turn.turn _ turn.turn turn.goes_on))

pub returns-clause-fits_next : goal.returns-clause-fits_next
returns-clause-fits_next c =
    asks_more c.in_ok-turn.turn _ _ (λ q fits next other. fits (given_part checking_fitting next) other)
    c.in_ok-turn.ensures.fits_next

pub returns-clause-kept : goal.returns-clause-kept
returns-clause-kept c =
    subst (λ (w : StagingState). KeepsStaging w.typing.stage c.resume.new.typing.stage) c.staging.view_is c.in_ok-turn.ensures.kept
