-- What each question of a staging demands of the world in which it is asked, and what it leaves.
use Rattle.std.specs.Prelude.{◌≡◌, false, Some}
use Rattle.tl_base.specs.declared.ids.TermId.{TermId}
use Rattle.tl_base.specs.Layer.{State, Given}
use Rattle.terra_term.specs.declared.store.Function.{Function}
use Rattle.terra_term.specs.declared.store.FunctionState.TheVariants as standing
use Rattle.terra_term.specs.Held.{state_of, typed_in}
use Rattle.exotype.specs.World.{StageState}
use Rattle.check_model.specs.declared.known.KnownResult.TheVariants.{Is, NotYet}
use Rattle.check_model.specs.declared.question.CheckAnswer.{CheckAnswer}
use Rattle.check_model.specs.Typing.{TypingState, function_at, form_in, is_aggregate_form}
use Rattle.check_model.specs.Calls.{result_of}
use Rattle.check_model.specs.Keeping.{IsLaidOut}
use Rattle.check_sound.specs.Sound.{IsSound}
use Rattle.check_library.specs.Calls.{asks}
use Rattle.check_sound.specs.Growing.{Leads}
use Rattle.check_sound.specs.Layers.{ReachesReady}
use Rattle.stage_library.specs.declared.tasks.Task.TheVariants as tasks
use Rattle.stage_check.specs.declared.jobs.Job.TheVariants as jobs
use Rattle.stage_check.specs.declared.jobs.Asked.{Asked}
use Rattle.stage_check.specs.declared.jobs.Asked.TheVariants as asked
use Rattle.stage_check.specs.declared.jobs.JobEnd.{JobEnd}
use Rattle.stage_check.specs.declared.jobs.JobEnd.TheVariants as ends
use Rattle.stage_check.specs.Layers.{answer_of}
use Rattle.stage_model.specs.Stage.{StagingState}

-- ---- what is demanded

-- a function of the library that asks is a job of its own; a body is typed of a function that is defined, and which no one types; and a
-- result type is found where it isn't known
abbrev pub IsMeant : Asked → StageState → Type 0
IsMeant (asked.Job (jobs.Stage (tasks.Library call))) w = asks call.function ≡ false
IsMeant (asked.Job (jobs.Body f)) w = (t : TermId) × (state_of w.store f ≡ standing.Defined t)
IsMeant (asked.Job (jobs.Result f)) w = result_of w f ≡ NotYet
IsMeant question w = Unit {0}

abbrev pub Begins : Asked → TypingState → Type 0
Begins question w = IsSound w.stage × IsMeant question w.stage

-- ---- what is left

-- what an end says of the world that is left
abbrev pub Says : Asked → JobEnd → StageState → Type 0
Says (asked.Job (jobs.Stage task)) (ends.Values vs) v = Unit {0}
Says (asked.Job (jobs.Stage task)) (ends.Raised x place) v = Unit {0}
Says (asked.Job (jobs.Call call)) (ends.Values vs) v = Unit {0}
Says (asked.Job (jobs.Call call)) (ends.Raised x place) v = Unit {0}
Says (asked.Job (jobs.Export place)) (ends.Values vs) v = Unit {0}
Says (asked.Job (jobs.Export place)) (ends.Raised x at) v = Unit {0}
Says (asked.Job (jobs.Check f)) ends.Done v = (g : Function) → function_at v f ≡ Some g → ReachesReady v f
Says (asked.Job (jobs.Check f)) (ends.Refused why) v = Unit {0}
Says (asked.Job (jobs.Body f)) ends.Done v = (made : TermId) × (typed_in (state_of v.store f) ≡ Some made)
Says (asked.Job (jobs.Body f)) (ends.Refused why) v = Unit {0}
Says (asked.Job (jobs.Result f)) (ends.Result t) v = result_of v f ≡ Is t
Says (asked.Job (jobs.Result f)) (ends.Refused why) v = Unit {0}
Says (asked.Job (jobs.Layout t at)) ends.Done v = IsLaidOut v t (is_aggregate_form (form_in v t))
Says (asked.Job (jobs.Layout t at)) (ends.NoLayout kind) v = Unit {0}
Says (asked.Terra f vs at) (ends.Values us) v = Unit {0}
Says (asked.Terra f vs at) (ends.Raised x place) v = Unit {0}
Says question end v = ⊥

-- a sound world, to which the one in which the question was asked has led; the bodies that are being typed have their variables still
pub record Leaves (question : Asked) (w : TypingState) (end : JobEnd) (v : TypingState) : Type 0 where
  pub sound : IsSound v.stage
  pub leads : Leads w.stage v.stage
  pub variables : v.variables ≡ w.variables
  pub says : Says question end v.stage

-- an answer is what an end of the question's layer is, and brings what that left
abbrev pub Came : Asked → State TypingState → Given TypingState CheckAnswer → Type 0
Came question s next = (end : JobEnd) × ((next.answer ≡ answer_of end) × Leaves question s.world end next.state.world)

-- ---- in a staging

abbrev pub Begun : Asked → StagingState → Type 0
Begun question w = Begins question w.typing

abbrev pub Left : Asked → StagingState → JobEnd → StagingState → Type 0
Left question w end v = Leaves question w.typing end v.typing
