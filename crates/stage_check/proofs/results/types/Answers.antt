use Rattle.std.proofs.Common.{◌≡◌, List, sym, ap, ◌∙◌}
use Rattle.tl_base.specs.Layer.{Given, state, given, seen}
use Rattle.check_model.specs.declared.question.CheckAnswer.{CheckAnswer}
use Rattle.check_model.specs.Typing.{TypingState}
use Rattle.check_expr.specs.Rest.{body_rest}
use Rattle.stage_check.specs.Results.{result_seen}
use Rattle.stage_check.proofs.Showing.{shown_asks, shown_unless}
use Rattle.stage_check.proofs.results.types.Goals as goal

pub returns-clause-turn : goal.returns-clause-turn
returns-clause-turn c = ap result_seen c.in_ok-turn.ensures.turn ∙ sym (c.turn_of.ensures c.resume.new.budget)

pub returns-clause-reads_no_more : goal.returns-clause-reads_no_more
returns-clause-reads_no_more c =
    let s = state c.resume.new.world c.resume.new.budget in
    let first = given c.args.answer c.args.typing.now c.args.budget.now in
    let same = c.turn_of.ensures c.resume.new.budget in
    shown_unless c.in_ok-turn.turn c.turn_of.result s
    ((later : List (Given TypingState CheckAnswer)) → body_rest c.args.body.now first later ≡ seen c.in_ok-turn.turn s) _ same
    (λ h later. ap result_seen (h later) ∙ sym same) c.in_ok-turn.ensures.reads_no_more

pub returns-clause-goes_on : goal.returns-clause-goes_on
returns-clause-goes_on c =
    let s = state c.resume.new.world c.resume.new.budget in
    shown_asks c.in_ok-turn.turn c.turn_of.result s _ _ (c.turn_of.ensures c.resume.new.budget)
    (λ q h next later. ap result_seen (h next later)) c.in_ok-turn.ensures.goes_on

pub returns-clause-fits_next : goal.returns-clause-fits_next
returns-clause-fits_next c =
    let s = state c.resume.new.world c.resume.new.budget in
    shown_asks c.in_ok-turn.turn c.turn_of.result s _ _ (c.turn_of.ensures c.resume.new.budget) (λ q h next other. h next other)
    c.in_ok-turn.ensures.fits_next
