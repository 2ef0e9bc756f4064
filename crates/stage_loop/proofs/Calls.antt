-- Calls of Terra functions: what a check leaves, what is passed, and what comes of a run.
use Rattle.std.proofs.Common.{◌≡◌, ℕ, ◌-◌, ◌≤◌, Bool, true, false, List, [], ◌∷◌, map, Option, Some, None, refl, sym, ap, ap₂, ◌∙◌, subst, arith}
use Rattle.std.specs.Prelude.{if◌then◌else◌, IfOk, Result}
use Rattle.std.proofs.lemmas.Result.{IfOk-weaker}
use Rattle.tl_base.specs.declared.ids.FnId.{FnId}
use Rattle.tl_base.specs.declared.place.Place.{Place}
use Rattle.tl_base.specs.declared.turn.Turn.{Turn}
use Rattle.tl_base.specs.declared.turn.Turn.TheVariants as turns
use Rattle.tl_base.specs.Layer.{State, Given, Meaning, OnAsk, UnlessAsk, given, seen, state}
use Rattle.lua_value.specs.declared.value.Value.{Value}
use Rattle.terra_words.specs.Runs as runs
use Rattle.terra_words.specs.Runs.{Run, Over, number, word}
use Rattle.terra_types.specs.declared.types.TypeForm.{TypeForm}
use Rattle.terra_term.specs.declared.lists.TypedName.{TypedName}
use Rattle.terra_term.specs.Stores.{Callable, callable_of, contents_of}
use Rattle.terra_term.specs.TypedTerms.{Body}
use Rattle.exotype.specs.World.{StageState}
use Rattle.check_model.specs.declared.question.CheckAnswer.{CheckAnswer}
use Rattle.check_library.specs.Counting.{nothing, count_function}
use Rattle.stage_check.specs.declared.jobs.Asked.{Asked}
use Rattle.stage_check.specs.declared.jobs.Asked.TheVariants as asked
use Rattle.stage_check.specs.declared.jobs.Job.TheVariants as jobs
use Rattle.stage_check.specs.declared.jobs.JobEnd.{JobEnd}
use Rattle.stage_check.specs.declared.jobs.JobEnd.TheVariants as ends
use Rattle.stage_check.specs.Layers.{answer_of}
use Rattle.stage_model.specs.World.{StagingState, TerraRun}
use Rattle.stage_model.specs.Words.{Taken, Words, Bad, is_callable, taken}
use Rattle.stage_model.specs.Calls.{CallSeen, bad_argument_text, ended, fault_text, given_if, not_callable, on_words, called, raised, run_at, with_run, with_term}
use Rattle.stage_sound.specs.Jobs.{Left}
use Rattle.stage_loop.specs.declared.calling.Calling.{Calling}
use Rattle.stage_loop.specs.declared.words.Passed.{Passed}
use Rattle.stage_loop.specs.declared.words.Passed.TheVariants as passed
use Rattle.stage_loop.specs.declared.running.RunEnd.{RunEnd}
use Rattle.stage_loop.specs.declared.running.RunEnd.TheVariants as run_ends
use Rattle.stage_loop.specs.Calls.{EndsAs, HasRun, MayRun, WasChecked, WasReadied, after_answer, calling_rest, finished, left_of, passed_of, passed_to, staged}
use Rattle.stage_loop.proofs.Passing.{words-fit}

abbrev StagingGiven : Type 0
StagingGiven = Given StagingState CheckAnswer

-- ---- what a check leaves

end-fits : (f : FnId) (w v : StagingState) (end : JobEnd) → Left (asked.Job (jobs.Check f)) w end v → WasChecked (answer_of end) f v.typing.stage
end-fits f w v ends.Done left = (left.sound, left.says)
end-fits f w v (ends.Refused why) left = tt
end-fits f w v (ends.Values vs) left = absurd left.says
end-fits f w v (ends.Raised x place) left = absurd left.says
end-fits f w v (ends.Result t) left = absurd left.says
end-fits f w v (ends.NoLayout kind) left = absurd left.says

pub check-fits : (f : FnId) (w v : StagingState) (end : JobEnd) (answer : CheckAnswer) → answer ≡ answer_of end →
    Left (asked.Job (jobs.Check f)) w end v → WasChecked answer f v.typing.stage
check-fits f w v end answer same left = subst (λ (a : CheckAnswer). WasChecked a f v.typing.stage) (sym same) (end-fits f w v end left)

-- a call that is to begin
pub rest-begins : (c : Calling) → c.waits ≡ false → calling_rest c ≡ called c.function c.arguments c.place
rest-begins c fresh =
    ap (λ (b : Bool). if b then after_answer c.function c.arguments c.place else called c.function c.arguments c.place) fresh

-- ---- where a call stops

module _ {E : Type 0} (r : Result (Turn Asked JobEnd) E) (s : State StagingState) where
  -- where a call comes to what another does, it stops there
  pub stops-as : (x y : CallSeen) → x ≡ y → IfOk r (λ turn. y ≡ seen turn s) → IfOk r (λ turn. x ≡ seen turn s)
  stops-as x y same h = IfOk-weaker r (λ turn. y ≡ seen turn s) (λ turn. x ≡ seen turn s) (λ turn is. same ∙ is) h

-- a call that is to begin comes to what `called` does
module _ (c : Calling) (fresh : c.waits ≡ false) (answer : CheckAnswer) (w : StagingState) (left next_left : ℕ) where
  begins-so : (later : List StagingGiven) (o : CallSeen) → called c.function c.arguments c.place (given answer w left) later ≡ o →
      calling_rest c (given answer w left) later ≡ o
  begins-so later o is =
      ap (λ (m : Meaning StagingState Asked CheckAnswer JobEnd). m (given answer w left) later) (rest-begins c fresh) ∙ is

  pub begins-there : (turn : Turn Asked JobEnd) →
      called c.function c.arguments c.place (given answer w left) [] ≡ seen turn (state w next_left) →
      calling_rest c (given answer w left) [] ≡ seen turn (state w next_left)
  begins-there turn is = begins-so [] (seen turn (state w next_left)) is

  pub begins-alike : (turn : Turn Asked JobEnd) →
      UnlessAsk turn ((v : StagingState) (a : CheckAnswer) (later : List StagingGiven) →
      called c.function c.arguments c.place (given a v left) later ≡ seen turn (state v next_left)) →
      UnlessAsk turn ((later : List StagingGiven) → calling_rest c (given answer w left) later ≡ seen turn (state w next_left))
  begins-alike (turns.End e) h = λ later. begins-so later (seen (turns.End e) (state w next_left)) (h w answer later)
  begins-alike (turns.Ask q) h = tt
  begins-alike turns.Spent h = λ later. begins-so later (seen turns.Spent (state w next_left)) (h w answer later)

  pub goes-on : (turn : Turn Asked JobEnd) (now : Calling) →
      OnAsk turn (λ _. (v : StagingState) (a : CheckAnswer) (next : StagingGiven) (later : List StagingGiven) →
      called c.function c.arguments c.place (given a v left) (next ∷ later) ≡ calling_rest now next later) →
      OnAsk turn (λ _. (next : StagingGiven) (later : List StagingGiven) →
      calling_rest c (given answer w left) (next ∷ later) ≡ calling_rest now next later)
  goes-on (turns.End e) now h = tt
  goes-on (turns.Ask q) now h = λ next later. begins-so (next ∷ later) (calling_rest now next later) (h w answer next later)
  goes-on turns.Spent now h = tt

-- ---- what is passed

module _ (f : FnId) (vs : List Value) (at : Place) (s : State StagingState) where
  abbrev types : List TypeForm
  types = s.world.typing.stage.store.types

  passed-none : (t : Taken) → passed_of t ≡ passed.NotCallable → ⊥
  passed-none (Words ws) h = cc
  passed-none (Bad n) h = cc

  passed-words : (t : Taken) (ws : List ℕ) → passed_of t ≡ passed.Words ws → t ≡ Words ws
  passed-words (Words xs) ws h = let same : xs ≡ ws = cc in ap Words same
  passed-words (Bad n) ws h = absurd cc

  passed-bad : (t : Taken) (n : ℕ) → passed_of t ≡ passed.Bad n → t ≡ Bad n
  passed-bad (Words xs) n h = absurd cc
  passed-bad (Bad m) n h = let same : m ≡ n = cc in ap Bad same

  pub not-callable : (o : Option Callable) → passed_to types o vs ≡ passed.NotCallable → with_term o f vs at s ≡ not_callable at s
  not-callable None h = refl
  not-callable (Some k) h = by (is_callable types k.body) h
    where
      by : (b : Bool) → (if b then passed_of (taken types 1 k.body.parameters vs) else passed.NotCallable) ≡ passed.NotCallable →
          (if b then on_words (taken types 1 k.body.parameters vs) k.body f at s else not_callable at s) ≡ not_callable at s
      by true h = absurd (passed-none (taken types 1 k.body.parameters vs) h)
      by false h = refl

  pub bad-argument : (o : Option Callable) (n : ℕ) → passed_to types o vs ≡ passed.Bad n → with_term o f vs at s ≡ raised (bad_argument_text n) at s
  bad-argument None n h = absurd cc
  bad-argument (Some k) n h = by (is_callable types k.body) h
    where
      by : (b : Bool) → (if b then passed_of (taken types 1 k.body.parameters vs) else passed.NotCallable) ≡ passed.Bad n →
          (if b then on_words (taken types 1 k.body.parameters vs) k.body f at s else not_callable at s) ≡ raised (bad_argument_text n) at s
      by true h = ap (λ (t : Taken). on_words t k.body f at s) (passed-bad (taken types 1 k.body.parameters vs) n h)
      by false h = absurd cc

  record IsPassed (o : Option Callable) (ws : List ℕ) : Type 0 where
    term : Callable
    is : o ≡ Some term
    callable : is_callable types term.body ≡ true
    words : taken types 1 term.body.parameters vs ≡ Words ws

  all-passed : (o : Option Callable) (ws : List ℕ) → passed_to types o vs ≡ passed.Words ws → IsPassed o ws
  all-passed None ws h = absurd cc
  all-passed (Some k) ws h = by (is_callable types k.body) refl h
    where
      by : (b : Bool) → is_callable types k.body ≡ b →
          (if b then passed_of (taken types 1 k.body.parameters vs) else passed.NotCallable) ≡ passed.Words ws → IsPassed (Some k) ws
      by true may h = record { term = k; is = refl; callable = may; words = passed-words (taken types 1 k.body.parameters vs) ws h }
      by false may h = absurd cc

  pub may-run : (ws : List ℕ) → WasReadied f s.world.typing.stage → (count_function s.world.typing.stage nothing f).passing ≡ None →
      passed_to types (callable_of (contents_of s.world.typing.stage.store) f) vs ≡ passed.Words ws → MayRun s.world.typing.stage f ws
  may-run ws ready few h =
      let p = all-passed (callable_of (contents_of s.world.typing.stage.store) f) ws h in
      record {
        sound = ready.0;
        ready = ready.1;
        few = few;
        term = p.term;
        is = p.is;
        callable = p.callable;
        values = words-fit types 1 p.term.body.parameters vs ws p.words;
      }

  -- a run on all words is what comes of the call
  pub runs-on : (ws : List ℕ) (seen : CallSeen) →
      passed_to types (callable_of (contents_of s.world.typing.stage.store) f) vs ≡ passed.Words ws →
      ((k : Callable) → callable_of (contents_of s.world.typing.stage.store) f ≡ Some k →
      ended k.body f ws at (run_at s.world.typing.stage f ws s.left) s ≡ seen) →
      with_term (callable_of (contents_of s.world.typing.stage.store) f) f vs at s ≡ seen
  runs-on ws seen h ran =
      let p = all-passed (callable_of (contents_of s.world.typing.stage.store) f) ws h in
      ap (λ (o : Option Callable). with_term o f vs at s) p.is
      ∙ ap (λ (b : Bool). if b then on_words (taken types 1 p.term.body.parameters vs) p.term.body f at s else not_callable at s) p.callable
      ∙ ap (λ (t : Taken). on_words t p.term.body f at s) p.words
      ∙ ran p.term p.is

  -- so the call stops where the run does
  pub stops-as-run : {E : Type 0} (r : Result (Turn Asked JobEnd) E) (ws : List ℕ) (last : State StagingState) →
      passed_to types (callable_of (contents_of s.world.typing.stage.store) f) vs ≡ passed.Words ws →
      IfOk r (λ turn. (k : Callable) → callable_of (contents_of s.world.typing.stage.store) f ≡ Some k →
      ended k.body f ws at (run_at s.world.typing.stage f ws s.left) s ≡ seen turn last) →
      IfOk r (λ turn. with_term (callable_of (contents_of s.world.typing.stage.store) f) f vs at s ≡ seen turn last)
  stops-as-run r ws last h ran =
      IfOk-weaker r
      (λ turn. (k : Callable) → callable_of (contents_of s.world.typing.stage.store) f ≡ Some k →
      ended k.body f ws at (run_at s.world.typing.stage f ws s.left) s ≡ seen turn last)
      (λ turn. with_term (callable_of (contents_of s.world.typing.stage.store) f) f vs at s ≡ seen turn last)
      (λ turn ends. runs-on ws (seen turn last) h ends) ran

-- ---- what comes of a run

-- a run in the parts of what a staging works in is one in the whole
pub run-in-parts : {E : Type 0} (r : Result RunEnd E) (w new : StageState) (variables : List TypedName) (runs more : List TerraRun) (f : FnId)
    (words : List ℕ) (units : ℕ) (whole : StagingState) → staged w variables runs ≡ whole →
    IfOk r (λ end. (vs : List TypedName) → HasRun (staged w vs runs) (staged new vs more) f words units end) →
    IfOk r (λ end. HasRun whole (staged new variables more) f words units end)
run-in-parts r w new variables runs more f words units whole same h =
    subst (λ (v : StagingState). IfOk r (λ end. HasRun v (staged new variables more) f words units end)) same
    (IfOk-weaker r (λ end. (vs : List TypedName) → HasRun (staged w vs runs) (staged new vs more) f words units end)
    (λ end. HasRun (staged w variables runs) (staged new variables more) f words units end) (λ end all. all variables) h)

module _ (v : StagingState) (f : FnId) (body : Body) (words : List ℕ) (units : ℕ) (out : List ℕ) (at : Place) where
  abbrev here : State StagingState
  here = state v units

  pub ended-so : (end : RunEnd) → EndsAs v.typing.stage f body words units out end →
      ended body f words at (run_at v.typing.stage f words units) here ≡ finished end at (with_run here f words out)
  ended-so (run_ends.Returned values left) h =
      ap (λ (r : Run). ended body f words at r here) h.1
      ∙ ap₂ (λ (o : Option (List Value)) (n : ℕ). given_if o at (state (with_run here f words out) n)) (sym h.2) (sym h.3)
  ended-so (run_ends.Fault kind place left) h =
      ap (λ (r : Run). ended body f words at r here) h.0
      ∙ ap (λ (n : ℕ). raised (fault_text kind place) at (state (with_run here f words out) n)) (sym h.1)
  ended-so run_ends.Broken h = ap (λ (r : Run). ended body f words at r here) h

  pub left-few : (end : RunEnd) → EndsAs v.typing.stage f body words units out end → left_of end ≤ units
  left-few (run_ends.Returned values left) h = omega (arith, h.3)
  left-few (run_ends.Fault kind place left) h = omega (arith, h.1)
  left-few run_ends.Broken h = omega arith

-- where a call ends as its run does, it stops as the run of the function comes to
pub stops-as-ended : {E : Type 0} (r : Result (Turn Asked JobEnd) E) (last : State StagingState) (old new : StagingState) (f : FnId)
    (words : List ℕ) (units : ℕ) (at : Place) (end : RunEnd) → HasRun old new f words units end →
    IfOk r (λ turn. finished end at new ≡ seen turn last) →
    IfOk r (λ turn. (k : Callable) → callable_of (contents_of old.typing.stage.store) f ≡ Some k →
    ended k.body f words at (run_at old.typing.stage f words units) (state old units) ≡ seen turn last)
stops-as-ended r last old new f words units at end ran h =
    IfOk-weaker r (λ turn. finished end at new ≡ seen turn last)
    (λ turn. (k : Callable) → callable_of (contents_of old.typing.stage.store) f ≡ Some k →
    ended k.body f words at (run_at old.typing.stage f words units) (state old units) ≡ seen turn last)
    (λ turn is k there.
    ended-so old f k.body words units ran.out at end (ran.ends k there)
    ∙ (ap (λ (w : StagingState). finished end at w) (sym ran.new_is) ∙ is)) h
