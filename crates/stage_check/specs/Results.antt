-- The result type of a function, found by typing its body.
use Rattle.std.specs.Prelude.{◌≡◌, Option, Some, None, slice_get, unwrap_or}
use Rattle.tl_base.specs.declared.ids.FnId.{FnId}
use Rattle.tl_base.specs.Layer.{State, Given, Seen, Ended, SpentAt, Asks, Meaning}
use Rattle.terra_types.specs.Opening.{unit}
use Rattle.terra_term.specs.declared.refusal.Refusal.{Refusal}
use Rattle.terra_term.specs.Held.{state_of, refusal_in}
use Rattle.check_model.specs.declared.end.BodyEnd.{BodyEnd}
use Rattle.check_model.specs.declared.end.BodyEnd.TheVariants as body_ends
use Rattle.check_model.specs.declared.question.BodyQuestion.{BodyQuestion}
use Rattle.check_model.specs.declared.question.CheckAnswer.{CheckAnswer}
use Rattle.check_model.specs.declared.question.CheckAnswer.TheVariants as answers
use Rattle.check_model.specs.Typing.{TypingState}
use Rattle.check_model.specs.Calls.{found_in}
use Rattle.check_model.specs.Bodies.{body}
use Rattle.check_expr.specs.Rest.{body_rest, BodyFits}
use Rattle.stage_check.specs.declared.jobs.JobEnd.{JobEnd}
use Rattle.stage_check.specs.declared.jobs.JobEnd.TheVariants as ends
use Rattle.stage_check.specs.declared.results.ResultOf.{ResultOf}
use Rattle.stage_check.specs.declared.results.ResultOf.TheVariants as layers

-- a body that was typed has its result type; one that was refused has its refusal
abbrev pub result_end : BodyEnd → State TypingState → JobEnd
result_end (body_ends.Typed made) s = ends.Result (unwrap_or (found_in (slice_get s.world.stage.store.typed made.0)) unit)
result_end (body_ends.Refused why) s = ends.Refused why

abbrev pub result_seen : Seen TypingState BodyQuestion BodyEnd → Seen TypingState BodyQuestion JobEnd
result_seen (Ended e s) = Ended (result_end e s) s
result_seen (SpentAt s) = SpentAt s
result_seen (Asks q s) = Asks q s

-- a function that was refused before has that refusal at once; the body of any other one is typed
abbrev pub result_by : Option Refusal → FnId → Meaning TypingState BodyQuestion CheckAnswer JobEnd
result_by (Some why) f first later = Ended (ends.Refused why) first.state
result_by None f first later = result_seen (body f first later)

abbrev pub result_meaning : FnId → Meaning TypingState BodyQuestion CheckAnswer JobEnd
result_meaning f first later = result_by (refusal_in (state_of first.state.world.stage.store f)) f first later

-- what remains to be done
abbrev pub result_rest : ResultOf → Meaning TypingState BodyQuestion CheckAnswer JobEnd
result_rest (layers.Begins f) first later = result_meaning f first later
result_rest (layers.Types b) first later = result_seen (body_rest b first later)

abbrev pub ResultFits : ResultOf → Given TypingState CheckAnswer → Type 0
ResultFits (layers.Begins f) next = next.answer ≡ answers.Go
ResultFits (layers.Types b) next = BodyFits b next
