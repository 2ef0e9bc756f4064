-- Views of the code that calls Terra functions.
use Rattle.std.specs.Prelude.{◌≡◌, ℕ, ◌-◌, ◌≤◌, Bool, true, List, [], ◌∷◌, map, Option, Some, None, if◌then◌else◌}
use Rattle.tl_base.specs.declared.ids.FnId.{FnId}
use Rattle.tl_base.specs.declared.place.Place.{Place}
use Rattle.tl_base.specs.Layer.{Given, Meaning, SpentAt, state}
use Rattle.lua_value.specs.declared.value.Value.{Value}
use Rattle.terra_words.specs.declared.words.FaultKind.{FaultKind}
use Rattle.terra_words.specs.Runs as runs
use Rattle.terra_words.specs.Runs.{Run, Over, More, word, number}
use Rattle.terra_types.specs.declared.types.TypeForm.{TypeForm}
use Rattle.terra_types.specs.Sizes.{form_at}
use Rattle.terra_term.specs.declared.lists.TypedName.{TypedName}
use Rattle.terra_term.specs.declared.store.Function.{Function}
use Rattle.terra_term.specs.Stores.{Callable, callable_of, contents_of}
use Rattle.terra_term.specs.TypedTerms.{Body}
use Rattle.terra_meaning.specs.Values.{AreValues}
use Rattle.exotype.specs.World.{StageState}
use Rattle.check_model.specs.declared.question.CheckAnswer.{CheckAnswer}
use Rattle.check_model.specs.declared.question.CheckAnswer.TheVariants as answers
use Rattle.check_model.specs.Typing.{function_at}
use Rattle.check_library.specs.Counting.{nothing, count_function}
use Rattle.check_sound.specs.Sound.{IsSound}
use Rattle.check_sound.specs.Layers.{ReachesReady}
use Rattle.stage_check.specs.declared.jobs.Asked.{Asked}
use Rattle.stage_check.specs.declared.jobs.JobEnd.{JobEnd}
use Rattle.stage_model.specs.World.{StagingState, TerraRun}
use Rattle.stage_model.specs.Words.{Taken, Words, Bad, is_callable, taken, values_of}
use Rattle.stage_model.specs.Calls.{CallSeen, answered, called, fault_text, given_if, is_over, least_of, raised, run_at, with_run}
use Rattle.stage_loop.specs.declared.words.Passed.{Passed}
use Rattle.stage_loop.specs.declared.words.Passed.TheVariants as passed
use Rattle.stage_loop.specs.declared.running.RunEnd.{RunEnd}
use Rattle.stage_loop.specs.declared.running.RunEnd.TheVariants as run_ends
use Rattle.stage_loop.specs.declared.calling.Calling.{Calling}
use Rattle.stage_loop.specs.Runs.{Took}

-- ---- the layer

-- what remains of a call that waits for the check
abbrev pub after_answer : FnId → List Value → Place → Meaning StagingState Asked CheckAnswer JobEnd
after_answer f vs at next later = answered next.answer f vs at next.state

abbrev pub calling_rest : Calling → Meaning StagingState Asked CheckAnswer JobEnd
calling_rest c = if c.waits then after_answer c.function c.arguments c.place else called c.function c.arguments c.place

-- a sound world, in which a function is ready with all that it reaches
abbrev pub WasReadied : FnId → StageState → Type 0
WasReadied f w = IsSound w × ((g : Function) → function_at w f ≡ Some g → ReachesReady w f)

-- which is what a check left that isn't refused
abbrev pub WasChecked : CheckAnswer → FnId → StageState → Type 0
WasChecked (answers.Refused why) f w = Unit {0}
WasChecked answer f w = WasReadied f w

abbrev pub CallingFits : Calling → Given StagingState CheckAnswer → Type 0
CallingFits c next = c.waits ≡ true → WasChecked next.answer c.function next.state.world.typing.stage

-- ---- what is passed

abbrev pub passed_of : Taken → Passed
passed_of (Words words) = passed.Words words
passed_of (Bad position) = passed.Bad position

abbrev pub passed_to : List TypeForm → Option Callable → List Value → Passed
passed_to types None vs = passed.NotCallable
passed_to types (Some k) vs =
    if is_callable types k.body then passed_of (taken types 1 k.body.parameters vs) else passed.NotCallable

-- ---- the run

-- a function that can be compiled and run on words: one that was checked in a sound world and that Lua code may call with them
pub record MayRun (w : StageState) (f : FnId) (words : List ℕ) : Type 0 where
  pub sound : IsSound w
  pub ready : (g : Function) → function_at w f ≡ Some g → ReachesReady w f
  pub few : (count_function w nothing f).passing ≡ None
  pub term : Callable
  pub is : callable_of (contents_of w.store) f ≡ Some term
  pub callable : is_callable w.store.types term.body ≡ true
  pub values : AreValues w.store.types term.body.parameters (map word words)

-- how many counts the run needs, of so many
abbrev pub counts_of : StageState → FnId → List ℕ → ℕ → ℕ
counts_of w f words units = least_of (λ n. is_over (run_at w f words n)) 0 units

-- how it ends, with the units that are left then
abbrev pub EndsAs : StageState → FnId → Body → List ℕ → (units : ℕ) → (out : List ℕ) → RunEnd → Type 0
EndsAs w f body words units out (run_ends.Returned values left) =
    (x : runs.Value) × (run_at w f words units ≡ Over (runs.Returned x) out)
    × (values ≡ values_of (form_at w.store.types body.result) (number x)) × (left ≡ units - counts_of w f words units)
EndsAs w f body words units out (run_ends.Fault kind place left) =
    (run_at w f words units ≡ Over (runs.Fault kind place) out) × (left ≡ units - counts_of w f words units)
EndsAs w f body words units out run_ends.Broken = run_at w f words units ≡ More out

-- what a staging works in, by its parts
abbrev pub staged : StageState → List TypedName → List TerraRun → StagingState
staged w variables runs = record { typing = record { stage = w; variables = variables }; runs = runs }

-- a run, and what it printed, are in what a staging works in
pub record HasRun (old new : StagingState) (f : FnId) (words : List ℕ) (units : ℕ) (end : RunEnd) : Type 0 where
  pub out : List ℕ
  pub new_is : new ≡ with_run (state old units) f words out
  pub ends : (k : Callable) → callable_of (contents_of old.typing.stage.store) f ≡ Some k →
      EndsAs old.typing.stage f k.body words units out end

-- the units that are left then
abbrev pub left_of : RunEnd → ℕ
left_of (run_ends.Returned values left) = left
left_of (run_ends.Fault kind place left) = left
left_of run_ends.Broken = 0

-- what comes of it, in the world that has the run
abbrev pub finished : RunEnd → Place → StagingState → CallSeen
finished (run_ends.Returned values left) at w = given_if values at (state w left)
finished (run_ends.Fault kind place left) at w = raised (fault_text kind place) at (state w left)
finished run_ends.Broken at w = SpentAt (state w 0)
