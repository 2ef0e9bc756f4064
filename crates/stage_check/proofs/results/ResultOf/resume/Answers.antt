use Rattle.std.proofs.Common.{◌≡◌, List, [], ◌∷◌, subst, ◌∙◌}
use Rattle.tl_base.specs.Layer.{Given, given, state, seen}
use Rattle.check_model.specs.declared.question.CheckAnswer.{CheckAnswer}
use Rattle.check_model.specs.Typing.{TypingState}
use Rattle.check_expr.specs.Rest.{body_rest}
use Rattle.stage_check.specs.declared.results.ResultOf.{ResultOf}
use Rattle.stage_check.specs.Results.{result_seen, ResultFits}
use Rattle.stage_check.proofs.Showing.{begins_as, unless_more, asks_more}
use Rattle.stage_check.proofs.results.ResultOf.resume.Goals as goal

pub returns-in-Types-clause-goes_on : goal.returns-in-Types-clause-goes_on
returns-in-Types-clause-goes_on c = rw c.in-Types.is c.types.ensures.goes_on

-- what is to begin does what the typing of the body does
pub types-requires-in-None : goal.types-requires-in-None
types-requires-in-None c =
    let first = given c.args.answer c.args.typing.now c.args.budget.now in
    c.start-body.ensures.fits first (subst (λ (r : ResultOf). ResultFits r first) c.in-Begins.is c.requires)

pub returns-in_ok-turn-in-None-clause-turn : goal.returns-in_ok-turn-in-None-clause-turn
returns-in_ok-turn-in-None-clause-turn c =
    let first = given c.args.answer c.args.typing.now c.args.budget.now in
    begins_as c.args.self.now c.in-Begins.f c.start-body.result first [] c.in-Begins.is (cc (c.refusal_of.ensures, c.in-None.is))
    c.start-body.ensures.means ∙ c.in_ok-turn-in-None.ensures.turn

pub returns-in_ok-turn-in-None-clause-reads_no_more : goal.returns-in_ok-turn-in-None-clause-reads_no_more
returns-in_ok-turn-in-None-clause-reads_no_more c =
    let first = given c.args.answer c.args.typing.now c.args.budget.now in
    let s = state c.types-in-None.new.typing c.types-in-None.new.budget in
    let turn = c.in_ok-turn-in-None.turn in
    unless_more turn
    ((later : List (Given TypingState CheckAnswer)) → result_seen (body_rest c.start-body.result first later) ≡ seen turn s) _
    (λ h later.
    begins_as c.args.self.now c.in-Begins.f c.start-body.result first later c.in-Begins.is (cc (c.refusal_of.ensures, c.in-None.is))
    c.start-body.ensures.means ∙ h later) c.in_ok-turn-in-None.ensures.reads_no_more

pub returns-in_ok-turn-in-None-clause-goes_on : goal.returns-in_ok-turn-in-None-clause-goes_on
returns-in_ok-turn-in-None-clause-goes_on c =
    let first = given c.args.answer c.args.typing.now c.args.budget.now in
    asks_more c.in_ok-turn-in-None.turn _ _
    (λ q h next later.
    begins_as c.args.self.now c.in-Begins.f c.start-body.result first (next ∷ later) c.in-Begins.is
    (cc (c.refusal_of.ensures, c.in-None.is)) c.start-body.ensures.means ∙ h next later) c.in_ok-turn-in-None.ensures.goes_on
