-- A call of a Terra function by Lua code, in its six steps: a payment; the check of the function, with the number of its typed nodes; whether
-- Lua code may call it; its arguments; its run; and what it gives.
use Rattle.std.specs.Prelude.{ℕ, suc, zero, ◌-◌, Bool, true, false, nat_le, if◌then◌else◌, List, [], ◌∷◌, ◌++◌, map, codes, Option}
use Rattle.std.specs.Prelude.{Some, None}
use Rattle.std.specs.Fmt.{decimal}
use Rattle.tl_base.specs.declared.ids.FnId.{FnId}
use Rattle.tl_base.specs.declared.place.Place.{Place}
use Rattle.tl_base.specs.Layer.{State, state, Given, Seen, Ended, SpentAt, Asks, Meaning}
use Rattle.lua_value.specs.declared.value.Value.{Value}
use Rattle.lua_table.specs.Heap.{with_printed}
use Rattle.lua_table.specs.declared.call.LibTurn.{LibTurn}
use Rattle.lua_table.specs.declared.call.LibTurn.TheVariants as turns
use Rattle.lua_base.specs.Calls as base
use Rattle.terra_words.specs.declared.words.FaultKind.{FaultKind}
use Rattle.terra_words.specs.declared.words.FaultKind.TheVariants as faults
use Rattle.terra_words.specs.Runs as runs
use Rattle.terra_words.specs.Runs.{Run, Over, More, word, number}
use Rattle.terra_term.specs.declared.refusal.RefusalKind.TheVariants.{TooLarge}
use Rattle.terra_term.specs.Stores.{Callable, contents_of, callable_of}
use Rattle.terra_term.specs.TypedTerms.{Body}
use Rattle.terra_types.specs.Sizes.{form_at}
use Rattle.terra_meaning.specs.Meaning.{meaning as run_of}
use Rattle.exotype.specs.World.{StageState, with_heap}
use Rattle.terra_lib.specs.Answers.{Turned, on_heap}
use Rattle.check_model.specs.declared.question.CheckAnswer.{CheckAnswer}
use Rattle.check_model.specs.declared.question.CheckAnswer.TheVariants as answers
use Rattle.check_library.specs.Answers.{refused}
use Rattle.check_library.specs.Counting.{nothing, count_function}
use Rattle.check_library.specs.Exports.{place_of_function}
use Rattle.stage_check.specs.declared.jobs.Asked.{Asked}
use Rattle.stage_check.specs.declared.jobs.Asked.TheVariants as asked
use Rattle.stage_check.specs.declared.jobs.Job.TheVariants as jobs
use Rattle.stage_check.specs.declared.jobs.JobEnd.{JobEnd}
use Rattle.stage_check.specs.declared.jobs.JobEnd.TheVariants as ends
use Rattle.stage_check.specs.Layers.{with_stage}
use Rattle.stage_model.specs.Places.{place_text}
use Rattle.stage_model.specs.World.{StagingState}
use Rattle.stage_model.specs.Words.{Taken, Words, Bad, is_callable, taken, values_of}

abbrev pub CallSeen : Type 0
CallSeen = Seen StagingState Asked JobEnd

-- ---- what is raised

-- the world of Lua and Terra code in that of a staging
abbrev pub with_world : StagingState → StageState → StagingState
with_world w v = record { typing = with_stage w.typing v; runs = w.runs }

-- what ends in the library
abbrev pub shown : LibTurn → State StagingState → CallSeen
shown (turns.Values vs) s = Ended (ends.Values vs) s
shown (turns.Raise v at) s = Ended (ends.Raised v at) s
shown turns.Spent s = SpentAt s
shown turn s = Ended (ends.Values []) s

abbrev pub said : State StagingState → (State StageState → Turned) → CallSeen
said s go =
    let t = go (state s.world.typing.stage s.left) in
    shown t.turn (state (with_world s.world t.left.world) t.left.left)

-- raises a text with the place of the call before it, which is paid for
abbrev pub raised : List ℕ → Place → State StagingState → CallSeen
raised text at s = said s (λ t. on_heap t (λ h. base.raised h at text))

abbrev pub bad_argument_text : ℕ → List ℕ
bad_argument_text position = codes "bad argument " ++ decimal position ++ codes " to Terra call"

abbrev pub kind_text : FaultKind → List ℕ
kind_text faults.BadAddress = codes "BadAddress"
kind_text faults.DivZero = codes "DivZero"
kind_text faults.StackFull = codes "StackFull"
kind_text faults.CallDepth = codes "CallDepth"
kind_text faults.NoReturn = codes "NoReturn"
kind_text faults.BadCall = codes "BadCall"

abbrev pub fault_text : FaultKind → Place → List ℕ
fault_text kind place = codes "fault " ++ kind_text kind ++ codes " at " ++ place_text place

-- ---- the run

-- what the function means with these words, on memory in which the statics made so far have their first values, at a count
abbrev pub run_at : StageState → FnId → List ℕ → ℕ → Run
run_at w f words n = run_of (contents_of w.store) [] w.memory n f (map word words)

abbrev pub is_over : Run → Bool
is_over (Over e out) = true
is_over (More out) = false

-- the least number of so many from one on that passes a test, or else the one behind them
unfoldable pub least_of : (ℕ → Bool) → (from many : ℕ) → ℕ
least_of test n zero = n
least_of test n (suc many) = if test n then n else least_of test (suc n) many

-- what the run printed joins what was printed before, and the run is one more
abbrev pub with_output : StageState → List ℕ → StageState
with_output w out = with_heap w (with_printed w.heap out)

abbrev pub with_run : State StagingState → FnId → List ℕ → List ℕ → StagingState
with_run s f words out = record {
  typing = with_stage s.world.typing (with_output s.world.typing.stage out);
  runs =
      s.world.runs
      ++ record { store = s.world.typing.stage.store; function = f; arguments = words; units = s.left } ∷ [];
}

-- ---- what it gives

abbrev pub given_if : Option (List Value) → Place → State StagingState → CallSeen
given_if (Some vs) at s = Ended (ends.Values vs) s
given_if None at s = raised (codes "result out of profile") at s

-- how the run ended; code that typing has passed is never stuck
abbrev pub on_end : Body → StageState → runs.End → Place → State StagingState → CallSeen
on_end body w (runs.Returned v) at s = given_if (values_of (form_at w.store.types body.result) (number v)) at s
on_end body w (runs.Fault kind place) at s = raised (fault_text kind place) at s
on_end body w runs.Stuck at s = Ended (ends.Values []) s

-- A unit is paid for each count. Where the run isn't over with the units that are left, they are spent.
abbrev pub ended : Body → FnId → List ℕ → Place → Run → State StagingState → CallSeen
ended body f words at (More out) s = SpentAt (state (with_run s f words out) 0)
ended body f words at (Over e out) s =
    let w = s.world.typing.stage in
    let counts = least_of (λ n. is_over (run_at w f words n)) 0 s.left in
    on_end body w e at (state (with_run s f words out) (s.left - counts))

-- ---- the arguments

abbrev pub on_words : Taken → Body → FnId → Place → State StagingState → CallSeen
on_words (Words words) body f at s = ended body f words at (run_at s.world.typing.stage f words s.left) s
on_words (Bad position) body f at s = raised (bad_argument_text position) at s

-- ---- the function

abbrev pub not_callable : Place → State StagingState → CallSeen
not_callable at s = raised (codes "not callable from Lua") at s

-- behind its check a function that is there has a typed term
abbrev pub with_term : Option Callable → FnId → List Value → Place → State StagingState → CallSeen
with_term None f vs at s = not_callable at s
with_term (Some k) f vs at s =
    let types = s.world.typing.stage.store.types in
    if is_callable types k.body then on_words (taken types 1 k.body.parameters vs) k.body f at s else not_callable at s

-- what reaches too much is refused at the function itself
abbrev pub unless_too_large : Option ℕ → FnId → List Value → Place → State StagingState → CallSeen
unless_too_large (Some passing) f vs at s =
    said s (λ t. refused t TooLarge (place_of_function t.world f) at)
unless_too_large None f vs at s = with_term (callable_of (contents_of s.world.typing.stage.store) f) f vs at s

-- a refusal is raised as `compile` raises it
abbrev pub answered : CheckAnswer → FnId → List Value → Place → State StagingState → CallSeen
answered (answers.Refused why) f vs at s = said s (λ t. refused t why.kind why.place at)
answered answer f vs at s = unless_too_large (count_function s.world.typing.stage nothing f).passing f vs at s

-- it asks for the check
abbrev pub after_check : FnId → List Value → Place → State StagingState → List (Given StagingState CheckAnswer) → CallSeen
after_check f vs at s [] = Asks (asked.Job (jobs.Check f)) s
after_check f vs at s (next ∷ later) = answered next.answer f vs at next.state

-- what it means that Lua code calls a Terra function with these arguments at a place
abbrev pub called : FnId → List Value → Place → Meaning StagingState Asked CheckAnswer JobEnd
called f vs at first later =
    let s = first.state in
    if nat_le 1 s.left then after_check f vs at (state s.world (s.left - 1)) later else SpentAt s
