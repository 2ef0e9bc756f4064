use Rattle.std.proofs.Common.{◌≡◌, List, [], ◌∷◌, sym, subst, ap, ◌∙◌}
use Rattle.tl_base.specs.Layer.{given, OnAsk}
use Rattle.stage_form.specs.Within.{given_part}
use Rattle.spec_model.specs.declared.question.SpecAnswer.{SpecAnswer}
use Rattle.spec_model.specs.Meaning.{SpecGiven}
use Rattle.spec_machine.specs.Rest.{spec_rest}
use Rattle.stage_code.specs.Layers.{spec_fitting}
use Rattle.stage_code.proofs.Answering.{spec_answers}
use Rattle.stage_code.proofs.Keeping.{keeps_spec}
use Rattle.stage_code.proofs.Turning.{goes_on, asks}
use Rattle.stage_code.proofs.staged.resume_spec.Goals as goal

pub returns-clause-goes_on : goal.returns-clause-goes_on
returns-clause-goes_on c =
    let a = c.args in
    let old = spec_rest a.spec.now in
    let rest = spec_rest c.resume.new.self in
    let first = given a.answer a.world.now a.budget.now in
    let stops = ap (λ (x : SpecAnswer). old (given x a.world.now a.budget.now) []) (sym c.spec_answer.ensures) ∙ c.in_ok-stopped.ensures.turn in
    let more =
    subst (λ (x : SpecAnswer). OnAsk c.in_ok-stopped.stopped (λ _. (next : SpecGiven) (later : List SpecGiven) →
    old (given x a.world.now a.budget.now) (next ∷ later) ≡ rest next later)) c.spec_answer.ensures c.in_ok-stopped.ensures.goes_on in
    rw c.in_ok-turn.ensures (goes_on spec_fitting old rest first c.in_ok-stopped.stopped _ stops more)

pub returns-clause-fits_next : goal.returns-clause-fits_next
returns-clause-fits_next c =
    rw c.in_ok-turn.ensures
    (asks spec_fitting c.in_ok-stopped.stopped _ _
    (λ q fits next other. fits (given_part spec_fitting next) (spec_answers next.answer other)) c.in_ok-stopped.ensures.fits_next)

pub returns-clause-kept : goal.returns-clause-kept
returns-clause-kept c = keeps_spec _ _ c.in_ok-stopped.ensures.kept
