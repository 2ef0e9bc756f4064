-- What each layer of a staging keeps, whatever it asks and is answered: where it asks, and where it ends, its world is sound.
use Rattle.std.specs.Prelude.{◌≡◌, ℕ, true, List, ◌∷◌, ◌++◌, Some, slice_get, unwrap_or}
use Rattle.tl_base.specs.declared.ids.FnId.{FnId}
use Rattle.tl_base.specs.declared.ids.TermId.{TermId}
use Rattle.tl_base.specs.declared.ids.TypeId.{TypeId}
use Rattle.tl_base.specs.Layer.{State, Given, Seen, Ended, SpentAt, Asks, Meaning}
use Rattle.terra_types.specs.Opening.{unit}
use Rattle.terra_term.specs.declared.store.Export.{Export}
use Rattle.terra_term.specs.declared.store.Function.{Function}
use Rattle.terra_term.specs.declared.store.FunctionState.{FunctionState}
use Rattle.terra_term.specs.declared.store.FunctionState.TheVariants as standing
use Rattle.terra_term.specs.Held.{state_of, typed_in}
use Rattle.exotype.specs.World.{StageState}
use Rattle.check_model.specs.declared.question.BodyQuestion.{BodyQuestion}
use Rattle.check_model.specs.declared.question.BodyQuestion.TheVariants.{ResultOf}
use Rattle.check_model.specs.declared.end.BodyEnd.{BodyEnd}
use Rattle.check_model.specs.declared.end.BodyEnd.TheVariants as body_ends
use Rattle.check_model.specs.declared.question.CheckQuestion.{CheckQuestion}
use Rattle.check_model.specs.declared.question.CheckQuestion.TheVariants as asked_for
use Rattle.check_model.specs.declared.question.LayoutQuestion.{LayoutQuestion}
use Rattle.check_model.specs.declared.job.LayoutTask.{LayoutTask}
use Rattle.check_model.specs.declared.job.Reached.{Reached}
use Rattle.check_model.specs.declared.end.CheckEnd.{CheckEnd}
use Rattle.check_model.specs.declared.end.CheckEnd.TheVariants as check_ends
use Rattle.check_model.specs.declared.end.LayoutEnd.{LayoutEnd}
use Rattle.check_model.specs.declared.end.LayoutEnd.TheVariants as layout_ends
use Rattle.check_model.specs.declared.known.KnownResult.TheVariants.{Is, NotYet}
use Rattle.check_model.specs.Typing.{TypingState, function_at, form_in, is_aggregate_form}
use Rattle.check_model.specs.Calls.{result_of, found_in}
use Rattle.check_model.specs.Keeping.{Answers, ChecksAnswer, IsLaidOut}
use Rattle.check_model.specs.Bodies.{BodyGiven, body}
use Rattle.check_model.specs.Checks.{CheckGiven, check, was_reached}
use Rattle.check_model.specs.Layouts.{LayoutGiven, layout}
use Rattle.check_sound.specs.Sound.{IsSound, IsReady}
use Rattle.check_sound.specs.Exports.{AreCounted}
use Rattle.check_sound.specs.Growing.{WasReady, WereCounted, Leads}

-- an answer is given in a sound world, to which the layer of the question has led
abbrev pub IsBack : {A : Type 0} → State StageState → Given StageState A → Type 0
IsBack s next = IsSound next.state.world × Leads s.world next.state.world

abbrev pub IsBackFor : {Q A E : Type 0} → Seen StageState Q E → Given StageState A → Type 0
IsBackFor (Asks question s) next = IsBack s next
IsBackFor (Ended end s) next = Unit {0}
IsBackFor (SpentAt s) next = Unit {0}

-- each answer is back for the question at which the layer stands with the answers before it
abbrev pub AreBack : {Q A E : Type 0} → Meaning StageState Q A E → Given StageState A → List (Given StageState A) → Type 0
AreBack {Q} {A} {E} layer first later =
    (before after : List (Given StageState A)) (next : Given StageState A) → later ≡ before ++ next ∷ after →
    IsBackFor (layer first before) next

abbrev pub StaysSound : {A Q E : Type 0} → Given StageState A → Seen StageState Q E → Type 0
StaysSound first (Ended end s) = IsSound s.world × Leads first.state.world s.world
StaysSound first (Asks question s) = IsSound s.world
StaysSound first (SpentAt s) = Unit {0}

-- The law of a layer that needs nothing of its answers.
abbrev pub LayerKeepsSound : {Q A E : Type 0} → Meaning StageState Q A E → Type 0
LayerKeepsSound {Q} {A} {E} layer =
    (first : Given StageState A) (later : List (Given StageState A)) →
    IsSound first.state.world → AreBack layer first later → StaysSound first (layer first later)

-- ---- bodies

-- what holds of a question: the result type of a function is asked for where it isn't known
abbrev pub IsBodyAsked : BodyQuestion → TypingState → Type 0
IsBodyAsked (ResultOf f) w = IsSound w.stage × (result_of w.stage f ≡ NotYet)
IsBodyAsked _ w = IsSound w.stage

-- an answer fits, and is given in a sound world to which the layer of the question has led; the bodies that were typed for it meanwhile
-- took their variables away
pub record IsBodyBack (question : BodyQuestion) (s : State TypingState) (next : BodyGiven) : Type 0 where
  pub sound : IsSound next.state.world.stage
  pub leads : Leads s.world.stage next.state.world.stage
  pub variables : next.state.world.variables ≡ s.world.variables
  pub answers : Answers question next.answer next.state.world.stage

abbrev pub IsBodyBackFor : Seen TypingState BodyQuestion BodyEnd → BodyGiven → Type 0
IsBodyBackFor (Asks question s) next = IsBodyBack question s next
IsBodyBackFor (Ended end s) next = Unit {0}
IsBodyBackFor (SpentAt s) next = Unit {0}

abbrev pub AreBodiesBack : FnId → BodyGiven → List BodyGiven → Type 0
AreBodiesBack f first later =
    (before after : List BodyGiven) (next : BodyGiven) → later ≡ before ++ next ∷ after → IsBodyBackFor (body f first before) next

-- where a body was typed, its function has its typed term, and its result type is known
abbrev pub IsTypedAs : FnId → BodyEnd → StageState → Type 0
IsTypedAs f (body_ends.Typed made) v =
    (typed_in (state_of v.store f) ≡ Some made) × (result_of v f ≡ Is (unwrap_or (found_in (slice_get v.store.typed made.0)) unit))
IsTypedAs f (body_ends.Refused why) v = Unit {0}

abbrev pub BodyStaysSound : FnId → BodyGiven → Seen TypingState BodyQuestion BodyEnd → Type 0
BodyStaysSound f first (Ended end s) =
    IsSound s.world.stage × (Leads first.state.world.stage s.world.stage ×
    ((s.world.variables ≡ first.state.world.variables) × IsTypedAs f end s.world.stage))
BodyStaysSound f first (Asks question s) = IsBodyAsked question s.world
BodyStaysSound f first (SpentAt s) = Unit {0}

-- no one types the function, or has typed it
abbrev pub MayBeTyped : FunctionState → Type 0
MayBeTyped standing.Undefined = Unit {0}
MayBeTyped (standing.Defined t) = Unit {0}
MayBeTyped _ = ⊥

-- The law: where a body begins in a sound world, and each answer is back for its question, it asks in sound worlds, and ends in one.
abbrev pub KeepsSound : Type 0
KeepsSound =
    (f : FnId) (first : BodyGiven) (later : List BodyGiven) →
    IsSound first.state.world.stage → MayBeTyped (state_of first.state.world.stage.store f) → AreBodiesBack f first later →
    BodyStaysSound f first (body f first later)

-- ---- checks

-- a body is typed of a function that is defined, and which no one types
abbrev pub IsCheckAsked : CheckQuestion → StageState → Type 0
IsCheckAsked (asked_for.Body f) w = IsSound w × ((t : TermId) × (state_of w.store f ≡ standing.Defined t))

pub record IsCheckBack (question : CheckQuestion) (s : State StageState) (next : CheckGiven) : Type 0 where
  pub sound : IsSound next.state.world
  pub leads : Leads s.world next.state.world
  pub answers : ChecksAnswer question next.answer next.state.world

abbrev pub IsCheckBackFor : Seen StageState CheckQuestion CheckEnd → CheckGiven → Type 0
IsCheckBackFor (Asks question s) next = IsCheckBack question s next
IsCheckBackFor (Ended end s) next = Unit {0}
IsCheckBackFor (SpentAt s) next = Unit {0}

abbrev pub AreChecksBack : FnId → CheckGiven → List CheckGiven → Type 0
AreChecksBack f first later =
    (before after : List CheckGiven) (next : CheckGiven) → later ≡ before ++ next ∷ after →
    IsCheckBackFor (check f first before) next

-- a function and all that it reaches can be called
abbrev pub ReachesReady : StageState → FnId → Type 0
ReachesReady w f =
    (queue : List Reached) × (was_reached f queue ≡ true) × ((g : FnId) → was_reached g queue ≡ true → IsReady w queue g)

-- where a check is done of a function that is there, the function and all that it reaches can be called
abbrev pub IsCheckedAs : FnId → CheckEnd → StageState → Type 0
IsCheckedAs f check_ends.Done v = (g : Function) → function_at v f ≡ Some g → ReachesReady v f
IsCheckedAs f (check_ends.Refused why) v = Unit {0}

abbrev pub CheckStaysSound : FnId → CheckGiven → Seen StageState CheckQuestion CheckEnd → Type 0
CheckStaysSound f first (Ended end s) =
    IsSound s.world × (Leads first.state.world s.world × IsCheckedAs f end s.world)
CheckStaysSound f first (Asks question s) = IsCheckAsked question s.world
CheckStaysSound f first (SpentAt s) = Unit {0}

-- The law: where a check begins in a sound world, and each answer is back for its question, it asks in sound worlds and ends in one; and
-- where it is done, the function and all that it reaches are ready. This is what the code of functions, and their runs, rest on.
abbrev pub ChecksKeepSound : Type 0
ChecksKeepSound =
    (f : FnId) (first : CheckGiven) (later : List CheckGiven) →
    IsSound first.state.world → AreChecksBack f first later → CheckStaysSound f first (check f first later)

-- ---- layouts

-- where a layout is done, the size of an aggregate is known
abbrev pub IsLaidAs : TypeId → LayoutEnd → StageState → Type 0
IsLaidAs t layout_ends.Done v = IsLaidOut v t (is_aggregate_form (form_in v t))
IsLaidAs t (layout_ends.Refused kind) v = Unit {0}

abbrev pub LayoutStaysSound : LayoutTask → LayoutGiven → Seen StageState LayoutQuestion LayoutEnd → Type 0
LayoutStaysSound task first (Ended end s) =
    IsSound s.world × (Leads first.state.world s.world × IsLaidAs task.of end s.world)
LayoutStaysSound task first (Asks question s) = IsSound s.world
LayoutStaysSound task first (SpentAt s) = Unit {0}

-- The law: a layout keeps worlds sound, whatever it is answered.
abbrev pub LayoutsKeepSound : Type 0
LayoutsKeepSound =
    (task : LayoutTask) (first : LayoutGiven) (later : List LayoutGiven) →
    IsSound first.state.world → AreBack (layout task) first later → LayoutStaysSound task first (layout task first later)

-- ---- what is ready stays so

-- The law: what was ready once is ready in each sound world that has grown since.
abbrev pub ReadyStays : Type 0
ReadyStays = (v : StageState) (f : FnId) → IsSound v → WasReady v f → ReachesReady v f

-- The law: exports that were counted once have as many typed nodes, with all that they reach, in each sound world that has grown since.
abbrev pub CountedStay : Type 0
CountedStay =
    (v : StageState) (exports : List Export) (fs : List ℕ) (nodes : ℕ) → IsSound v → WereCounted v exports fs nodes →
    AreCounted v exports fs nodes
