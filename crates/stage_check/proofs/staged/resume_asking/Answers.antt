use Rattle.std.proofs.Common.{◌≡◌, List, ◌∷◌, subst}
use Rattle.tl_base.specs.Layer.{given, OnAsk}
use Rattle.stage_form.specs.Within.{within}
use Rattle.stage_code.specs.Layers.{turn_within}
use Rattle.stage_code.proofs.Turning.{goes_on}
use Rattle.check_model.specs.Typing.{TypingState}
use Rattle.check_model.specs.contracts.typing.Typing.{the_view}
use Rattle.stage_check.specs.Asking.{asking_rest}
use Rattle.stage_check.specs.Layers.{JobGiven, asking_fitting}
use Rattle.stage_check.proofs.staged.resume_asking.Goals as goal

pub returns-clause-goes_on : goal.returns-clause-goes_on
returns-clause-goes_on c =
    let a = c.args in
    let first = given a.answer (the_view c.typing.inside) a.budget.now in
    let old = asking_rest a.asking.now in
    let rest = asking_rest c.resume.new.self in
    let turn = c.in_ok-turn.ensures in
    rw c.asking_turn.ensures
    (subst
    (λ (w : TypingState). OnAsk (turn_within asking_fitting c.in_ok-turn.turn) (λ _. (next : JobGiven) (later : List JobGiven) →
    within asking_fitting old (given a.answer w a.budget.now) (next ∷ later) ≡ within asking_fitting rest next later))
    c.typing.view_is (goes_on asking_fitting old rest first c.in_ok-turn.turn _ turn.turn turn.goes_on))
