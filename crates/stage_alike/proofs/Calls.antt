-- Calls of Terra functions by Lua code read no tree, and ask for a check alone.
use Rattle.std.proofs.Common.{ℕ, ◌-◌, Bool, true, false, List, [], ◌∷◌, Option, Some, None, refl}
use Rattle.std.specs.Prelude.{nat_le, if◌then◌else◌, codes}
use Rattle.tl_base.specs.declared.ids.FnId.{FnId}
use Rattle.tl_base.specs.declared.place.Place.{Place}
use Rattle.tl_base.specs.Layer.{State, state, Given, SpentAt}
use Rattle.tl_alike.specs.Plans.{AsksOnly, MeanSame}
use Rattle.lua_value.specs.declared.value.Value.{Value}
use Rattle.lua_table.specs.declared.call.LibTurn.{LibTurn}
use Rattle.lua_table.specs.declared.call.LibTurn.TheVariants as turns
use Rattle.lua_base.specs.Calls as base
use Rattle.terra_words.specs.Runs as runs
use Rattle.terra_words.specs.Runs.{Run, Over, More, number}
use Rattle.terra_term.specs.declared.refusal.RefusalKind.{RefusalKind}
use Rattle.terra_term.specs.declared.refusal.RefusalKind.TheVariants.{TooLarge}
use Rattle.terra_term.specs.Stores.{Callable, contents_of, callable_of}
use Rattle.terra_term.specs.TypedTerms.{Body}
use Rattle.terra_types.specs.Sizes.{form_at}
use Rattle.exotype.specs.World.{StageState}
use Rattle.terra_lib.specs.Answers.{Turned, on_heap}
use Rattle.check_model.specs.declared.question.CheckAnswer.{CheckAnswer}
use Rattle.check_model.specs.declared.question.CheckAnswer.TheVariants as answers
use Rattle.check_library.specs.Answers.{refused}
use Rattle.check_library.specs.Counting.{nothing, count_function}
use Rattle.check_library.specs.Exports.{place_of_function}
use Rattle.stage_check.specs.declared.jobs.Asked.{Asked}
use Rattle.stage_check.specs.declared.jobs.Asked.TheVariants as asked
use Rattle.stage_check.specs.declared.jobs.Job.TheVariants as jobs
use Rattle.stage_model.specs.Stage.{StagingState}
use Rattle.stage_model.specs.Words.{Taken, Words, Bad, is_callable, taken, values_of}
use Rattle.stage_model.specs.Calls.{CallSeen, with_world, shown, said, raised, bad_argument_text, fault_text, run_at, is_over, least_of, with_run}
use Rattle.stage_model.specs.Calls.{given_if, on_end, ended, on_words, not_callable, with_term, unless_too_large, after_check, answered, called}

-- a check may be asked for
module _ (IsAsked : Asked → Type 0) (f : FnId) (vs : List Value) (at : Place)
    (check : IsAsked (asked.Job (jobs.Check f))) where
  shown-only : (turn : LibTurn) (s : State StagingState) → AsksOnly IsAsked (shown turn s)
  shown-only (turns.Values us) s = tt
  shown-only (turns.Raise v place) s = tt
  shown-only turns.Spent s = tt
  shown-only (turns.CallBack g us next) s = tt
  shown-only (turns.TypeText t next) s = tt

  said-only : (s : State StagingState) (go : State StageState → Turned) → AsksOnly IsAsked (said s go)
  said-only s go =
      let t = go (state s.world.typing.stage s.left) in
      shown-only t.turn (state (with_world s.world t.left.world) t.left.left)

  raised-only : (text : List ℕ) (s : State StagingState) → AsksOnly IsAsked (raised text at s)
  raised-only text s = said-only s (λ t. on_heap t (λ h. base.raised h at text))

  refused-only : (kind : RefusalKind) (own : Place) (s : State StagingState) → AsksOnly IsAsked (said s (λ t. refused t kind own at))
  refused-only kind own s = said-only s (λ t. refused t kind own at)

  if-only : (b : Bool) (x y : CallSeen) → AsksOnly IsAsked x → AsksOnly IsAsked y → AsksOnly IsAsked (if b then x else y)
  if-only true x y one other = one
  if-only false x y one other = other

  given-only : (given : Option (List Value)) (s : State StagingState) → AsksOnly IsAsked (given_if given at s)
  given-only (Some us) s = tt
  given-only None s = raised-only (codes "result out of profile") s

  end-only : (body : Body) (v : StageState) (end : runs.End) (s : State StagingState) → AsksOnly IsAsked (on_end body v end at s)
  end-only body v (runs.Returned x) s = given-only (values_of (form_at v.store.types body.result) (number x)) s
  end-only body v (runs.Fault kind place) s = raised-only (fault_text kind place) s
  end-only body v runs.Stuck s = tt

  ended-only : (body : Body) (words : List ℕ) (run : Run) (s : State StagingState) → AsksOnly IsAsked (ended body f words at run s)
  ended-only body words (More out) s = tt
  ended-only body words (Over end out) s =
      let v = s.world.typing.stage in
      end-only body v end (state (with_run s f words out) (s.left - least_of (λ n. is_over (run_at v f words n)) 0 s.left))

  words-only : (body : Body) (t : Taken) (s : State StagingState) → AsksOnly IsAsked (on_words t body f at s)
  words-only body (Words words) s = ended-only body words (run_at s.world.typing.stage f words s.left) s
  words-only body (Bad position) s = raised-only (bad_argument_text position) s

  term-only : (o : Option Callable) (s : State StagingState) → AsksOnly IsAsked (with_term o f vs at s)
  term-only None s = raised-only (codes "not callable from Lua") s
  term-only (Some k) s =
      let types = s.world.typing.stage.store.types in
      if-only (is_callable types k.body) (on_words (taken types 1 k.body.parameters vs) k.body f at s) (not_callable at s)
      (words-only k.body (taken types 1 k.body.parameters vs) s) (raised-only (codes "not callable from Lua") s)

  small-only : (passing : Option ℕ) (s : State StagingState) → AsksOnly IsAsked (unless_too_large passing f vs at s)
  small-only (Some n) s = refused-only TooLarge (place_of_function s.world.typing.stage f) s
  small-only None s = term-only (callable_of (contents_of s.world.typing.stage.store) f) s

  answered-only : (answer : CheckAnswer) (s : State StagingState) → AsksOnly IsAsked (answered answer f vs at s)
  answered-only (answers.Refused why) s = refused-only why.kind why.place s
  answered-only answers.Go s = small-only (count_function s.world.typing.stage nothing f).passing s
  answered-only (answers.Values us) s = small-only (count_function s.world.typing.stage nothing f).passing s
  answered-only (answers.Raise v place) s = small-only (count_function s.world.typing.stage nothing f).passing s
  answered-only (answers.Result t) s = small-only (count_function s.world.typing.stage nothing f).passing s
  answered-only answers.Done s = small-only (count_function s.world.typing.stage nothing f).passing s
  answered-only (answers.NoLayout kind) s = small-only (count_function s.world.typing.stage nothing f).passing s

  called-only : (later : List (Given StagingState CheckAnswer)) (s : State StagingState) → AsksOnly IsAsked (after_check f vs at s later)
  called-only [] s = check
  called-only (next ∷ later) s = answered-only next.answer next.state

  pub called-same : MeanSame IsAsked (called f vs at) (called f vs at)
  called-same first later =
      let s = first.state in
      let paid = state s.world (s.left - 1) in
      (refl, if-only (nat_le 1 s.left) (after_check f vs at paid later) (SpentAt s) (called-only later paid) tt)
