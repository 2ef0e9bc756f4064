-- What calls of the library leave of sound worlds, and what they ask there.
use Rattle.std.specs.Prelude.{◌≡◌, ◌≤◌, false, take, length, Option, Some, None}
use Rattle.tl_base.specs.declared.place.Place.{Place}
use Rattle.tl_base.specs.Layer.{State}
use Rattle.lua_table.specs.declared.call.Back.{Back}
use Rattle.lua_table.specs.declared.call.LibCall.{LibCall}
use Rattle.lua_table.specs.declared.call.LibNext.{LibNext}
use Rattle.terra_term.specs.declared.store.Function.{Function}
use Rattle.exotype.specs.World.{StageState}
use Rattle.terra_lib.specs.Calls as terra
use Rattle.check_model.specs.declared.question.CheckAnswer.{CheckAnswer}
use Rattle.check_model.specs.declared.question.CheckAnswer.TheVariants as answers
use Rattle.check_model.specs.Keeping.{IsLaidOut}
use Rattle.check_sound.specs.Sound.{IsSound, IsThere}
use Rattle.check_model.specs.Typing.{form_in, function_at, is_aggregate_form}
use Rattle.check_library.specs.declared.ask.AskNext.{AskNext}
use Rattle.check_library.specs.declared.ask.AskNext.TheVariants as nexts
use Rattle.check_library.specs.declared.ask.AskTurn.{AskTurn}
use Rattle.check_library.specs.declared.ask.AskTurn.TheVariants as asked
use Rattle.check_library.specs.Answers.{Asked}
use Rattle.check_library.specs.Calls as asking
use Rattle.check_library.specs.Counting.{CountedState}
use Rattle.check_library.specs.Exports.{chunk_ended}
use Rattle.check_sound.specs.Exports.{AreCounted}
use Rattle.check_sound.specs.Growing.{WasReady, AreFine, Leads}

-- a sound world, to which another one leads
abbrev pub Leaves : StageState → StageState → Type 0
Leaves before after = IsSound after × Leads before after

-- ---- functions that need no check and no layout

-- The laws: whatever they are called with, and answered, they leave a sound world.

abbrev pub CallsLeaveSound : Type 0
CallsLeaveSound =
    (s : State StageState) (call : LibCall) → asking.asks call.function ≡ false → IsSound s.world →
    Leaves s.world (terra.called s call).left.world

abbrev pub AnswersLeaveSound : Type 0
AnswersLeaveSound =
    (s : State StageState) (next : LibNext) (answer : Back) → IsSound s.world →
    Leaves s.world (terra.backed s next answer).left.world

-- ---- functions that ask for a check or a layout

-- what was counted of the first exports of a world is right
pub record IsCounted (w : StageState) (c : CountedState) : Type 0 where
  pub front : c.exports ≤ length w.exports.list
  pub counted : AreCounted w (take c.exports w.exports.list) c.functions c.nodes

-- How one waits: an export for the check of its function, and a global for the layout of its type, which is there. What was counted of
-- the exports before is right, where they were fine when the call began.
abbrev pub AskIsFine : (begin w : StageState) → AskTurn → Type 0
AskIsFine begin w (asked.Check f (nexts.Export next)) = (next.function ≡ f) × (AreFine begin → IsCounted w next.counted)
AskIsFine begin w (asked.Check f (nexts.Global t bits)) = ⊥
AskIsFine begin w (asked.Layout t (nexts.Global of bits)) = (of ≡ t) × IsThere w t
AskIsFine begin w (asked.Layout t (nexts.Export next)) = ⊥
AskIsFine begin w _ = Unit {0}

-- what it leaves with its question, or its answer, seen from where its call began
abbrev pub AsksSound : StageState → Asked → Type 0
AsksSound begin it = IsSound it.left.world × (Leads begin it.left.world × AskIsFine begin it.left.world it.turn)

-- the answers that fit: where a check is done, the function was checked, and where a layout is done, the size of an aggregate is known
abbrev pub FitsAsk : AskTurn → CheckAnswer → StageState → Type 0
FitsAsk (asked.Check f next) answers.Done w = (g : Function) → function_at w f ≡ Some g → WasReady w f
FitsAsk (asked.Check f next) (answers.Refused why) w = Unit {0}
FitsAsk (asked.Layout t next) answers.Done w = IsLaidOut w t (is_aggregate_form (form_in w t))
FitsAsk (asked.Layout t next) (answers.NoLayout kind) w = Unit {0}
FitsAsk _ answer w = ⊥

-- what it goes on with once it is answered
abbrev pub goes_on_with : AskTurn → Option AskNext
goes_on_with (asked.Check f next) = Some next
goes_on_with (asked.Layout t next) = Some next
goes_on_with (asked.Turn turn) = None

-- The laws: a call, and the exports at the end of the chunk, leave a sound world, and so do they when an answer comes back that fits.

abbrev pub CallsAskSound : Type 0
CallsAskSound = (s : State StageState) (call : LibCall) → IsSound s.world → AsksSound s.world (asking.called s call)

abbrev pub EndsAskSound : Type 0
EndsAskSound = (s : State StageState) (place : Place) → IsSound s.world → AsksSound s.world (chunk_ended s place)

-- The call began in one world, its question was asked in another one, and it is answered in a third one.
abbrev pub AnswersAskSound : Type 0
AnswersAskSound =
    (begin w : StageState) (question : AskTurn) (next : AskNext) (answer : CheckAnswer) (s : State StageState) (place : Place) →
    goes_on_with question ≡ Some next → IsSound w → Leads begin w → AskIsFine begin w question →
    IsSound s.world → Leads w s.world → FitsAsk question answer s.world →
    AsksSound begin (asking.backed s next answer place)
