-- What remains to be done by the typing of a body that is suspended.
use Rattle.std.specs.Prelude.{◌≡◌, true}
use Rattle.tl_base.specs.Layer.{Meaning}
use Rattle.tl_base.specs.Machine.{rest_of, fits_waiting}
use Rattle.check_model.specs.declared.end.BodyEnd.{BodyEnd}
use Rattle.check_model.specs.declared.question.BodyQuestion.{BodyQuestion}
use Rattle.check_model.specs.declared.question.CheckAnswer.{CheckAnswer}
use Rattle.check_model.specs.Typing.{TypingState}
use Rattle.check_model.specs.Bodies.{BodyGiven}
use Rattle.check_expr.specs.declared.body.Body.{Body}
use Rattle.check_expr.specs.Frames.{body_rules, is_go}

abbrev pub body_rest : Body → Meaning TypingState BodyQuestion CheckAnswer BodyEnd
body_rest b = rest_of body_rules b.machine.frames.items b.machine.waiting

-- only the first answer begins
abbrev pub BodyFits : Body → BodyGiven → Type 0
BodyFits b next = fits_waiting is_go b.machine.waiting next.answer ≡ true
