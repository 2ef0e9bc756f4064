use Rattle.std.proofs.Common.{◌≡◌, List, ◌∷◌, subst}
use Rattle.tl_base.specs.Layer.{given, OnAsk}
use Rattle.stage_form.specs.Within.{given_part, within}
use Rattle.stage_code.specs.Layers.{turn_within}
use Rattle.stage_code.proofs.Turning.{goes_on, asks}
use Rattle.check_model.specs.Typing.{TypingState}
use Rattle.check_model.specs.contracts.typing.Typing.{the_view}
use Rattle.check_flow.specs.Rest.{layout_rest}
use Rattle.stage_library.specs.Keeping.{KeepsStaging}
use Rattle.stage_check.specs.Layers.{JobGiven, layout_fitting}
use Rattle.stage_check.proofs.Answering.{layout_answers}
use Rattle.stage_check.proofs.Keeping.{keeps_layout}
use Rattle.stage_check.proofs.staged.resume_layout.Goals as goal

pub returns-clause-goes_on : goal.returns-clause-goes_on
returns-clause-goes_on c =
    let a = c.args in
    let first = given a.answer (the_view c.typing.inside) a.budget.now in
    let old = layout_rest a.layout.now in
    let rest = layout_rest c.resume.new.self in
    let turn = c.in_ok-turn.ensures in
    rw c.layout_turn.ensures
    (subst
    (λ (w : TypingState). OnAsk (turn_within layout_fitting c.in_ok-turn.turn) (λ _. (next : JobGiven) (later : List JobGiven) →
    within layout_fitting old (given a.answer w a.budget.now) (next ∷ later) ≡ within layout_fitting rest next later))
    c.typing.view_is (goes_on layout_fitting old rest first c.in_ok-turn.turn _ turn.turn turn.goes_on))

pub returns-clause-fits_next : goal.returns-clause-fits_next
returns-clause-fits_next c =
    rw c.layout_turn.ensures
    (asks layout_fitting c.in_ok-turn.turn _ _
    (λ q fits next other. fits (given_part layout_fitting next) (layout_answers next.answer other)) c.in_ok-turn.ensures.fits_next)

pub returns-clause-kept : goal.returns-clause-kept
returns-clause-kept c =
    subst (λ (w : TypingState). KeepsStaging w.stage c.resume.new.world) c.typing.view_is
    (keeps_layout (the_view c.typing.inside).stage c.resume.new.world c.in_ok-turn.ensures.kept)
