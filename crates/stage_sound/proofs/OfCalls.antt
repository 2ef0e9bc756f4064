-- Calls of Terra functions by Lua code, as layers of the stage: they ask for a check, and change the heap alone.
use Rattle.std.proofs.Common.{◌≡◌, ℕ, Bool, true, false, List, [], ◌∷◌, Option, Some, None, refl}
use Rattle.std.specs.Prelude.{◌-◌, nat_le, if◌then◌else◌, codes}
use Rattle.tl_base.specs.declared.ids.FnId.{FnId}
use Rattle.tl_base.specs.declared.place.Place.{Place}
use Rattle.tl_base.specs.Layer.{State, state, Given, SpentAt}
use Rattle.stage_form.specs.Holding.{IsBackFor, Shows, Comes, Holds}
use Rattle.tl_tree.specs.Code.{Items}
use Rattle.lua_value.specs.declared.value.Value.{Value}
use Rattle.lua_table.specs.LuaState.{LuaState}
use Rattle.lua_table.specs.Heap.{with_printed}
use Rattle.lua_table.specs.declared.call.LibTurn.{LibTurn}
use Rattle.lua_table.specs.declared.call.LibTurn.TheVariants as turns
use Rattle.lua_base.specs.Calls as base
use Rattle.terra_words.specs.declared.words.FaultKind.{FaultKind}
use Rattle.terra_words.specs.Runs as runs
use Rattle.terra_words.specs.Runs.{Run, Over, More, number}
use Rattle.terra_term.specs.declared.refusal.RefusalKind.{RefusalKind}
use Rattle.terra_term.specs.declared.refusal.RefusalKind.TheVariants.{TooLarge}
use Rattle.terra_term.specs.Stores.{Callable, contents_of, callable_of}
use Rattle.terra_term.specs.TypedTerms.{Body}
use Rattle.terra_types.specs.Sizes.{form_at}
use Rattle.exotype.specs.World.{StageState, with_heap}
use Rattle.terra_lib.specs.Answers.{on_heap}
use Rattle.check_model.specs.declared.question.CheckAnswer.{CheckAnswer}
use Rattle.check_model.specs.declared.question.CheckAnswer.TheVariants as answers
use Rattle.check_library.specs.Answers.{refusal_text, refused}
use Rattle.check_library.specs.Counting.{nothing, count_function}
use Rattle.check_library.specs.Exports.{place_of_function}
use Rattle.check_sound.specs.Sound.{IsSound}
use Rattle.check_sound.specs.Growing.{Leads}
use Rattle.check_sound.proofs.Leading.{leads-twice}
use Rattle.stage_check.specs.declared.jobs.Asked.{Asked}
use Rattle.stage_check.specs.declared.jobs.Asked.TheVariants as asked
use Rattle.stage_check.specs.declared.jobs.Job.TheVariants as jobs
use Rattle.stage_check.specs.declared.jobs.JobEnd.{JobEnd}
use Rattle.stage_model.specs.Stage.{StagingState, stage}
use Rattle.stage_model.specs.Words.{Taken, Words, Bad, is_callable, taken, values_of}
use Rattle.stage_model.specs.Calls.{CallSeen, with_world, shown, said, raised, fault_text, bad_argument_text, run_at, is_over, least_of, with_run}
use Rattle.stage_model.specs.Calls.{given_if, on_end, ended, on_words, not_callable, with_term, unless_too_large, after_check, answered, called}
use Rattle.stage_sound.specs.Jobs.{Begun, Left}
use Rattle.stage_sound.proofs.Layers.{LayersKeep}

-- a sound world to which one has led, with the variables of the bodies that are being typed
record IsLed (w v : StagingState) : Type 0 where
  sound : IsSound v.typing.stage
  leads : Leads w.typing.stage v.typing.stage
  variables : v.typing.variables ≡ w.typing.variables

module _ (items : Items) (k : LayersKeep items) (f : FnId) (vs : List Value) (at : Place) where
  abbrev Fine : StagingState → CallSeen → Type 0
  Fine w seen = Shows Begun (Left (asked.Terra f vs at) w) seen

  -- ---- the heap alone is another

  heap-led : (w v : StagingState) (heap : LuaState) → IsLed w v → IsLed w (with_world v (with_heap v.typing.stage heap))
  heap-led w v heap led =
      let x = k.heaps v.typing.stage led.sound heap in
      record {
        sound = x.0;
        leads = leads-twice w.typing.stage v.typing.stage (with_heap v.typing.stage heap) led.leads x.1;
        variables = led.variables;
      }

  run-led : (w : StagingState) (s : State StagingState) (words out : List ℕ) → IsLed w s.world → IsLed w (with_run s f words out)
  run-led w s words out led =
      let x = heap-led w s.world (with_printed s.world.typing.stage.heap out) led in
      record { sound = x.sound; leads = x.leads; variables = x.variables }

  -- ---- what ends

  shown-fine : (w : StagingState) (turn : LibTurn) (s : State StagingState) → IsLed w s.world → Fine w (shown turn s)
  shown-fine w (turns.Values us) s led = record { sound = led.sound; leads = led.leads; variables = led.variables; says = tt }
  shown-fine w (turns.Raise v place) s led = record { sound = led.sound; leads = led.leads; variables = led.variables; says = tt }
  shown-fine w turns.Spent s led = tt
  shown-fine w (turns.CallBack g us next) s led = record { sound = led.sound; leads = led.leads; variables = led.variables; says = tt }
  shown-fine w (turns.TypeText t next) s led = record { sound = led.sound; leads = led.leads; variables = led.variables; says = tt }

  said-fine : (w : StagingState) (s : State StagingState) (go : State LuaState → base.Turned) → IsLed w s.world →
      Fine w (said s (λ t. on_heap t go))
  said-fine w s go led =
      let left = go (state s.world.typing.stage.heap s.left) in
      shown-fine w left.turn (state (with_world s.world (with_heap s.world.typing.stage left.left.world)) left.left.left)
      (heap-led w s.world left.left.world led)

  raised-fine : (w : StagingState) (text : List ℕ) (s : State StagingState) → IsLed w s.world → Fine w (raised text at s)
  raised-fine w text s led = said-fine w s (λ h. base.raised h at text) led

  refused-fine : (w : StagingState) (kind : RefusalKind) (own : Place) (s : State StagingState) → IsLed w s.world →
      Fine w (said s (λ t. refused t kind own at))
  refused-fine w kind own s led =
      said-fine w s (λ h. base.with_made h (refusal_text kind own.line own.word) (λ v. turns.Raise v at)) led

  if-fine : (w : StagingState) (b : Bool) (x y : CallSeen) → Fine w x → Fine w y → Fine w (if b then x else y)
  if-fine w true x y one other = one
  if-fine w false x y one other = other

  -- ---- the run, and what comes before it

  given-fine : (w : StagingState) (given : Option (List Value)) (s : State StagingState) → IsLed w s.world → Fine w (given_if given at s)
  given-fine w (Some us) s led = shown-fine w (turns.Values us) s led
  given-fine w None s led = raised-fine w (codes "result out of profile") s led

  end-fine : (w : StagingState) (body : Body) (v : StageState) (end : runs.End) (s : State StagingState) → IsLed w s.world →
      Fine w (on_end body v end at s)
  end-fine w body v (runs.Returned x) s led = given-fine w (values_of (form_at v.store.types body.result) (number x)) s led
  end-fine w body v (runs.Fault kind place) s led = raised-fine w (fault_text kind place) s led
  end-fine w body v runs.Stuck s led = shown-fine w (turns.Values []) s led

  ended-fine : (w : StagingState) (body : Body) (words : List ℕ) (run : Run) (s : State StagingState) → IsLed w s.world →
      Fine w (ended body f words at run s)
  ended-fine w body words (More out) s led = tt
  ended-fine w body words (Over end out) s led =
      let v = s.world.typing.stage in
      end-fine w body v end
      (state (with_run s f words out) (s.left - least_of (λ n. is_over (run_at v f words n)) 0 s.left))
      (run-led w s words out led)

  words-fine : (w : StagingState) (body : Body) (t : Taken) (s : State StagingState) → IsLed w s.world → Fine w (on_words t body f at s)
  words-fine w body (Words words) s led = ended-fine w body words (run_at s.world.typing.stage f words s.left) s led
  words-fine w body (Bad position) s led = raised-fine w (bad_argument_text position) s led

  term-fine : (w : StagingState) (o : Option Callable) (s : State StagingState) → IsLed w s.world → Fine w (with_term o f vs at s)
  term-fine w None s led = raised-fine w (codes "not callable from Lua") s led
  term-fine w (Some c) s led =
      let types = s.world.typing.stage.store.types in
      if-fine w (is_callable types c.body) (on_words (taken types 1 c.body.parameters vs) c.body f at s) (not_callable at s)
      (words-fine w c.body (taken types 1 c.body.parameters vs) s led) (raised-fine w (codes "not callable from Lua") s led)

  small-fine : (w : StagingState) (passing : Option ℕ) (s : State StagingState) → IsLed w s.world →
      Fine w (unless_too_large passing f vs at s)
  small-fine w (Some n) s led = refused-fine w TooLarge (place_of_function s.world.typing.stage f) s led
  small-fine w None s led = term-fine w (callable_of (contents_of s.world.typing.stage.store) f) s led

  answered-fine : (w : StagingState) (answer : CheckAnswer) (s : State StagingState) → IsLed w s.world →
      Fine w (answered answer f vs at s)
  answered-fine w (answers.Refused why) s led = refused-fine w why.kind why.place s led
  answered-fine w answers.Go s led = small-fine w (count_function s.world.typing.stage nothing f).passing s led
  answered-fine w (answers.Values us) s led = small-fine w (count_function s.world.typing.stage nothing f).passing s led
  answered-fine w (answers.Raise v place) s led = small-fine w (count_function s.world.typing.stage nothing f).passing s led
  answered-fine w (answers.Result t) s led = small-fine w (count_function s.world.typing.stage nothing f).passing s led
  answered-fine w answers.Done s led = small-fine w (count_function s.world.typing.stage nothing f).passing s led
  answered-fine w (answers.NoLayout kind) s led = small-fine w (count_function s.world.typing.stage nothing f).passing s led

  -- ---- the layer

  abbrev Back : Asked → State StagingState → Given StagingState CheckAnswer → Type 0
  Back question s next = Comes (stage items) Left question s next

  module _ (first : Given StagingState CheckAnswer) (begin : Begun (asked.Terra f vs at) first.state.world) where
    abbrev paid : State StagingState
    paid = state first.state.world (first.state.left - 1)

    behind : (b : Bool) (later : List (Given StagingState CheckAnswer)) →
        ((next : Given StagingState CheckAnswer) (rest : List (Given StagingState CheckAnswer)) → later ≡ next ∷ rest →
        IsBackFor Back (if b then after_check f vs at paid [] else SpentAt first.state) next) →
        Fine first.state.world (if b then after_check f vs at paid later else SpentAt first.state)
    behind false later back = tt
    behind true [] back = (begin.0, tt)
    behind true (next ∷ rest) back =
        let came : Back (asked.Job (jobs.Check f)) paid next = back next rest refl in
        answered-fine first.state.world next.answer next.state
        (record { sound = came.1.1.sound; leads = came.1.1.leads; variables = came.1.1.variables })

    pub terra-holds : Holds Begun Back (Left (asked.Terra f vs at) first.state.world) (called f vs at) first
    terra-holds later all = behind (nat_le 1 first.state.left) later (λ next rest split. all [] rest next split)
