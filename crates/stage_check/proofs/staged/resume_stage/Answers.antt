use Rattle.std.proofs.Common.{◌≡◌, List, [], ◌∷◌, sym, subst, ap, ◌∙◌}
use Rattle.tl_base.specs.Layer.{given, OnAsk}
use Rattle.stage_form.specs.Within.{given_part, within}
use Rattle.lua_model.specs.declared.question.LuaAnswer.{LuaAnswer}
use Rattle.stage_library.specs.Keeping.{KeepsStaging}
use Rattle.stage_code.specs.Layers.{staged_rest, StageGiven, turn_within}
use Rattle.stage_code.proofs.Turning.{goes_on, asks}
use Rattle.check_model.specs.Typing.{TypingState}
use Rattle.check_model.specs.contracts.typing.Typing.{the_view}
use Rattle.stage_check.specs.Layers.{JobGiven, stage_fitting}
use Rattle.stage_check.proofs.Answering.{lua_answers}
use Rattle.stage_check.proofs.staged.resume_stage.Goals as goal

pub returns-clause-goes_on : goal.returns-clause-goes_on
returns-clause-goes_on c =
    let a = c.args in
    let old = staged_rest a.staged.now in
    let rest = staged_rest c.resume.new.self in
    let v = the_view c.typing.inside in
    let first = given a.answer v a.budget.now in
    let turn = c.in_ok-turn.ensures in
    let is = c.lua_answer-answer.ensures in
    let stops = ap (λ (x : LuaAnswer). old (given x v.stage a.budget.now) []) (sym is) ∙ turn.turn in
    let more =
    subst (λ (x : LuaAnswer). OnAsk c.in_ok-turn.turn (λ _. (next : StageGiven) (later : List StageGiven) →
    old (given x v.stage a.budget.now) (next ∷ later) ≡ rest next later)) is turn.goes_on in
    rw c.stage_turn.ensures
    (subst
    (λ (w : TypingState). OnAsk (turn_within stage_fitting c.in_ok-turn.turn) (λ _. (next : JobGiven) (later : List JobGiven) →
    within stage_fitting old (given a.answer w a.budget.now) (next ∷ later) ≡ within stage_fitting rest next later))
    c.typing.view_is (goes_on stage_fitting old rest first c.in_ok-turn.turn _ stops more))

pub returns-clause-fits_next : goal.returns-clause-fits_next
returns-clause-fits_next c =
    rw c.stage_turn.ensures
    (asks stage_fitting c.in_ok-turn.turn _ _
    (λ q fits next other. fits (given_part stage_fitting next) (lua_answers next.answer other)) c.in_ok-turn.ensures.fits_next)

pub returns-clause-kept : goal.returns-clause-kept
returns-clause-kept c =
    subst (λ (w : TypingState). KeepsStaging w.stage c.resume.new.world) c.typing.view_is c.in_ok-turn.ensures.kept
