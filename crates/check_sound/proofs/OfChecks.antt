-- Behind a check, the function and all that it reaches are ready.
use Rattle.std.proofs.Common.{◌≡◌, ℕ, zero, suc, ◌+◌, ◌<◌, ◌≤◌, Bool, true, false, List, [], ◌∷◌, ◌++◌, length, Option, Some, None, refl}
use Rattle.std.proofs.Common.{sym, ap, ◌∙◌, subst, arith, slice_get}
use Rattle.std.specs.Prelude.{◌⊎◌, nat_lt, if◌then◌else◌}
use mathlib.Core.Logic.{inl, inr}
use Rattle.std.specs.Option.{option_map_or}
use Rattle.std.proofs.lemmas.Bool.{ltb-true, ltb-false, eq-eqb, or_left, cases_lt, cases_order}
use Rattle.std.proofs.lemmas.Option.{slice_get_within}
use Rattle.tl_base.specs.declared.place.Place.{Place}
use Rattle.tl_base.specs.declared.ids.FnId.{FnId}
use Rattle.tl_base.specs.declared.ids.TermId.{TermId}
use Rattle.tl_base.specs.declared.ids.TypeId.{TypeId}
use Rattle.tl_base.specs.Layer.{State}
use Rattle.tl_base.specs.Plan.{Give, Do, Run, Gives, Stops, Lacks, Waits, run, run_job, shown}
use Rattle.terra_types.proofs.Growing.{get-left}
use Rattle.terra_term.specs.declared.store.Function.{Function}
use Rattle.terra_term.specs.declared.store.FunctionState.{FunctionState}
use Rattle.terra_term.specs.declared.store.FunctionState.TheVariants as standing
use Rattle.terra_term.specs.declared.refusal.RefusalKind.{RefusalKind}
use Rattle.terra_term.specs.Held.{state_of, typed_in}
use Rattle.exotype.specs.World.{StageState}
use Rattle.check_model.specs.declared.job.CheckJob.{CheckJob}
use Rattle.check_model.specs.declared.job.CheckJob.TheVariants.{Take}
use Rattle.check_model.specs.declared.job.Reached.{Reached}
use Rattle.check_model.specs.declared.end.CheckEnd.{CheckEnd}
use Rattle.check_model.specs.declared.end.CheckEnd.TheVariants as ends
use Rattle.check_model.specs.declared.question.CheckQuestion.{CheckQuestion}
use Rattle.check_model.specs.declared.question.CheckQuestion.TheVariants as questions
use Rattle.check_model.specs.declared.question.CheckAnswer.{CheckAnswer}
use Rattle.check_model.specs.declared.question.CheckAnswer.TheVariants as answers
use Rattle.check_model.specs.Typing.{function_at}
use Rattle.check_model.specs.Calls.{parameters_of, parameters_in_state}
use Rattle.check_model.specs.Keeping.{ChecksAnswer}
use Rattle.check_model.specs.Checks.{CheckPlan, CheckGiven, was_reached, with_mentions, mentions_at, take_next, past, refused_at, on_body}
use Rattle.check_model.specs.Checks.{by_state, taken, at_index, check_job, check_first}
use Rattle.check_sound.specs.Sound.{IsSound}
use Rattle.check_sound.specs.Growing.{Leads}
use Rattle.check_sound.specs.Layers.{IsCheckAsked, IsCheckBack, IsCheckBackFor, ReachesReady, IsCheckedAs, CheckStaysSound, ChecksKeepSound}
use Rattle.check_sound.proofs.Tests.{none-some, same-some, got}
use Rattle.check_sound.proofs.Leading.{leads-itself, leads-twice}
use Rattle.check_sound.proofs.Meeting.{Meets, FollowsRun, AllFine, meets, asks}
use Rattle.check_sound.proofs.Reaching.{reached-more, stands, extends, typed-as, mention-known, Visited, visited-grows, visited-more, ready}

-- ---- a check so far

-- A queue of which so many functions are visited. The next one is there, and of all but the first the parameters are
-- known.
record Walk (f : FnId) (queue : List Reached) (n : ℕ) (w : StageState) : Type 0 where
  reached : was_reached f queue ≡ true
  next : (r : Reached) → slice_get queue n ≡ Some r → (x : Function) × (function_at w r.function ≡ Some x)
  known : (j : ℕ) (r : Reached) → 0 < j → slice_get queue j ≡ Some r →
      (ps : List TypeId) × (parameters_of w r.function ≡ Some ps)
  visited : (j : ℕ) (r : Reached) → j < n → slice_get queue j ≡ Some r → Visited w queue r.function

abbrev Fits : CheckQuestion → StageState → CheckAnswer → StageState → Type 0
Fits q w a v = IsSound v × (Leads w v × ChecksAnswer q a v)

abbrev Fine : CheckGiven → Type 0
Fine a = Unit {0}

fits : (q : CheckQuestion) (s : State StageState) (a : CheckGiven) → IsCheckBack q s a → Fine a →
    Fits q s.world a.answer a.state.world
fits q s a h fine = (h.sound, (h.leads, h.answers))

there-known : (w : StageState) (f : FnId) (ps : List TypeId) → parameters_of w f ≡ Some ps →
    (o : Option Function) → function_at w f ≡ o →
    (x : Function) × (function_at w f ≡ Some x)
there-known w f ps h (Some x) at = (x, at)
there-known w f ps h None at = absurd (none-some ps (ap (parameters_in_state w) (sym at) ∙ h))

-- ---- queues that grow

-- what stands behind the others stands among the new ones
behind : (queue more : List Reached) (j : ℕ) → length queue ≤ j →
    (k : ℕ) × (slice_get (queue ++ more) j ≡ slice_get more k)
behind [] more j h = (j, refl)
behind (x ∷ queue) more zero h = absurd (omega (arith, h))
behind (x ∷ queue) more (suc j) h = behind queue more j (omega (arith, h))

known-in : (w : StageState) (queue more next : List Reached) → next ≡ queue ++ more →
    ((j : ℕ) (x : Reached) → 0 < j → slice_get queue j ≡ Some x →
    (ps : List TypeId) × (parameters_of w x.function ≡ Some ps)) →
    ((j : ℕ) (x : Reached) → slice_get more j ≡ Some x → (ps : List TypeId) × (parameters_of w x.function ≡ Some ps)) →
    (j : ℕ) (x : Reached) → 0 < j → slice_get next j ≡ Some x →
    (ps : List TypeId) × (parameters_of w x.function ≡ Some ps)
known-in w queue more next is old new j x pos h = by (cases_lt j (length queue))
  where
    here : slice_get (queue ++ more) j ≡ Some x
    here = ap (λ (l : List Reached). slice_get l j) (sym is) ∙ h

    by : (j < length queue) ⊎ (length queue ≤ j) → (ps : List TypeId) × (parameters_of w x.function ≡ Some ps)
    by (inl lt) = old j x pos (sym (get-left queue more j lt) ∙ here)
    by (inr le) = let b = behind queue more j le in new b.0 x (sym b.1 ∙ here)

earlier : (P : FnId → Type 0) (queue next : List Reached) (i : ℕ) (r : Reached) → slice_get queue i ≡ Some r →
    ((j : ℕ) → j < length queue → slice_get next j ≡ slice_get queue j) → P r.function →
    ((j : ℕ) (x : Reached) → j < i → slice_get queue j ≡ Some x → P x.function) →
    (j : ℕ) (x : Reached) → j < i + 1 → slice_get next j ≡ Some x → P x.function
earlier P queue next i r at front mine before j x lt h = by (cases_order j i)
  where
    within : i < length queue
    within = slice_get_within queue i r at

    here : slice_get queue j ≡ Some x
    here = sym (front j (omega (arith, lt, within))) ∙ h

    by : (j ≡ i) ⊎ ((j < i) ⊎ (i < j)) → P x.function
    by (inl e) =
        subst (λ (y : Reached). P y.function) (same-some r x (sym at ∙ (ap (λ k. slice_get queue k) (sym e) ∙ here)))
        mine
    by (inr (inl less)) = before j x less here
    by (inr (inr more)) = absurd (omega (arith, lt, more))

-- what holds behind a function that is typed
record Past (f : FnId) (queue : List Reached) (i : ℕ) (r : Reached) (w : StageState) : Type 0 where
  reached : was_reached f queue ≡ true
  known : (j : ℕ) (x : Reached) → 0 < j → slice_get queue j ≡ Some x →
      (ps : List TypeId) × (parameters_of w x.function ≡ Some ps)
  visited : (j : ℕ) (x : Reached) → j < i → slice_get queue j ≡ Some x → Visited w queue x.function
  made : TermId
  is : typed_in (state_of w.store r.function) ≡ Some made

-- a check of a function, from a world on
module _ (f : FnId) (w0 : StageState) where
  -- where the function isn't there, nothing was reached
  abbrev There : Type 0
  There = (g : Function) × (function_at w0 f ≡ Some g)

  abbrev Ready : CheckJob → StageState → Type 0
  Ready (Take queue i) w = Leads w0 w × ((There → Walk f queue i w) × (i < length queue))

  -- what is reached of a function that was there
  abbrev Reached_by : CheckEnd → StageState → Type 0
  Reached_by ends.Done w = There → ReachesReady w f
  Reached_by (ends.Refused why) w = Unit {0}

  abbrev Goal : CheckEnd → StageState → Type 0
  Goal r w = IsSound w × (Leads w0 w × Reached_by r w)

  abbrev Leaves : CheckJob → StageState → CheckEnd → StageState → Type 0
  Leaves job w r v = Goal r v

  abbrev Holds : CheckPlan → StageState → Type 0
  Holds p w = Meets check_job IsSound Ready Leaves IsCheckAsked Fits IsCheckBack Fine fits Goal p w

  -- all of the queue is visited
  all-visited : (queue : List Reached) (n : ℕ) (w : StageState) → Walk f queue n w → length queue ≤ n →
      (g : FnId) → was_reached g queue ≡ true → Visited w queue g
  all-visited queue n w walk le g h =
      let s = stands g queue h in
      subst (λ z. Visited w queue z) (sym s.is) (walk.visited s.place s.reached
      (omega (arith, slice_get_within queue s.place s.reached s.at, le)) s.at)

  holds-next : (queue : List Reached) (n : ℕ) (w : StageState) → IsSound w → Leads w0 w → (There → Walk f queue n w) →
      Holds (take_next queue n) w
  holds-next queue n w sound leads walk = by (nat_lt n (length queue)) refl
    where
      by : (c : Bool) → nat_lt n (length queue) ≡ c → Holds (if c then Do (Take queue n) Give else Give ends.Done) w
      by true e = (sound, ((leads, (walk, ltb-true n (length queue) e)), λ r v l. l))
      by false e = (
        sound,
        (
          leads,
          λ there.
              let k = walk there in (
                queue,
                k.reached,
                ready w sound queue (all-visited queue n w k (ltb-false n (length queue) e)),
              ),
        ),
      )

  -- the queue behind a function that is typed
  walked : (queue : List Reached) (i : ℕ) (r : Reached) (w : StageState) → IsSound w → slice_get queue i ≡ Some r →
      Past f queue i r w → Walk f (with_mentions queue r.function (mentions_at w r.function)) (i + 1) w
  walked queue i r w sound at p =
      let g = r.function in
      let next = with_mentions queue g (mentions_at w g) in
      let e = extends queue g (mentions_at w g) in
      let within : i < length queue = slice_get_within queue i r at in
      let front : (j : ℕ) → j < length queue → slice_get next j ≡ slice_get queue j =
      λ j h. ap (λ (l : List Reached). slice_get l j) e.is ∙ get-left queue e.more j h in
      let grown : (x : FnId) → Visited w queue x → Visited w next x =
      λ x v. subst (λ (l : List Reached). Visited w l x) (sym e.is) (visited-more w queue e.more x v) in
      let mine : Visited w next g = record { made = p.made; is = p.is; mentions = e.all } in
      let known_next : (j : ℕ) (x : Reached) → 0 < j → slice_get next j ≡ Some x →
      (ps : List TypeId) × (parameters_of w x.function ≡ Some ps) =
      λ j x pos h. known-in w queue e.more next e.is p.known
      (λ k y there. let n = e.new k y there in
      let m = mention-known w sound g p.made (typed-as w g p.made p.is) n.0 n.1.0 n.1.1.0 in
      (m.0, ap (parameters_of w) n.1.1.1 ∙ m.1)) j x pos h in
      record {
        reached = subst (λ (l : List Reached). was_reached f l ≡ true) (sym e.is) (reached-more f queue e.more p.reached);
        next = λ x h. let k = known_next (i + 1) x (omega arith) h in there-known w x.function k.0 k.1
            (function_at w x.function) refl;
        known = known_next;
        visited = λ j x lt h. earlier (Visited w next) queue next i r at front mine
            (λ k y less there. grown y.function (p.visited k y less there)) j x lt h;
      }

  holds-past : (queue : List Reached) (i : ℕ) (r : Reached) (w : StageState) → IsSound w → Leads w0 w →
      slice_get queue i ≡ Some r → (There → Past f queue i r w) →
      Holds (past queue i r.function) w
  holds-past queue i r w sound leads at p =
      holds-next (with_mentions queue r.function (mentions_at w r.function)) (i + 1) w sound leads
      (λ there. walked queue i r w sound at (p there))

  -- ---- each function that is taken

  refused : (kind : RefusalKind) (r : Reached) (o : Option (Place × FnId)) (own : Place) (w : StageState) →
      IsSound w → Leads w0 w → Holds (refused_at kind r o own) w
  refused kind r None own w sound leads = (sound, (leads, tt))
  refused kind r (Some by) own w sound leads = (sound, (leads, tt))

  holds-state : (queue : List Reached) (i : ℕ) (r : Reached) (w : StageState) (g : Function) (s : FunctionState) →
      IsSound w → Leads w0 w → (There → Walk f queue i w) →
      slice_get queue i ≡ Some r → function_at w r.function ≡ Some g → g.state ≡ s →
      Holds (by_state s g.place queue i r) w
  holds-state queue i r w g standing.Undefined sound leads walk at there is = refused _ r r.by g.place w sound leads
  holds-state queue i r w g (standing.Typing t) sound leads walk at there is = refused _ r r.by g.place w sound leads
  holds-state queue i r w g (standing.Refused t why) sound leads walk at there is = (sound, (leads, tt))
  holds-state queue i r w g (standing.Typed t made) sound leads walk at there is =
      holds-past queue i r w sound leads at (λ h. record {
        reached = (walk h).reached;
        known = (walk h).known;
        visited = (walk h).visited;
        made = made;
        is = ap (λ (o : Option Function). typed_in (option_map_or (λ (x : Function). x.state) o standing.Undefined)) there ∙
            ap typed_in is;
      })
  holds-state queue i r w g (standing.Defined t) sound leads walk at there is = (
    (
      sound,
      (t, ap (λ (o : Option Function). option_map_or (λ (x : Function). x.state) o standing.Undefined) there ∙ is),
    ),
    answered,
  )
    where
      answered : (a : CheckAnswer) (v : StageState) → Fits (questions.Body r.function) w a v →
          Holds (on_body a queue i r.function) v
      answered answers.Done v h =
          holds-past queue i r v h.0 (leads-twice w0 w v leads h.1.0) at (λ y. record {
            reached = (walk y).reached;
            known = λ j x pos there. let k = (walk y).known j x pos there in
                (k.0, h.1.0.grows.parameters x.function k.0 k.1);
            visited = λ j x lt there. visited-grows w v sound h.0 h.1.0.grows queue x.function
                ((walk y).visited j x lt there);
            made = h.1.1.0;
            is = h.1.1.1;
          })
      answered (answers.Refused why) v h = (h.0, (leads-twice w0 w v leads h.1.0, tt))
      answered answers.Go v h = absurd h.1.1
      answered (answers.Values vs) v h = absurd h.1.1
      answered (answers.Raise x place) v h = absurd h.1.1
      answered (answers.Result t) v h = absurd h.1.1
      answered (answers.NoLayout kind) v h = absurd h.1.1

  each-job : (job : CheckJob) (w : StageState) → IsSound w → Ready job w → Holds (check_job job) w
  each-job (Take queue i) w sound walk = by (slice_get queue i) refl
    where
      found : (r : Reached) → slice_get queue i ≡ Some r → (o : Option Function) → function_at w r.function ≡ o →
          Holds (taken o queue i r) w
      found r at (Some g) there = holds-state queue i r w g g.state sound walk.0 walk.1.0 at there refl
      found r at None there = (
        sound,
        (walk.0, λ h. let x = (walk.1.0 h).next r at in absurd (none-some x.0 (sym there ∙ x.1))),
      )

      by : (o : Option Reached) → slice_get queue i ≡ o → Holds (at_index o queue i) w
      by (Some r) at = found r at (function_at w r.function) refl
      by None at = let x = got queue i walk.1.1 in absurd (none-some x.0 (sym at ∙ x.1))

  -- ---- the whole

  begin : There → Walk f (record { function = f; by = None } ∷ []) 0 w0
  begin there = record {
    reached = or_left _ _ (eq-eqb f.0 f.0 refl);
    next = λ r h. (
      there.0,
      ap (λ (x : Reached). function_at w0 x.function)
          (sym (same-some (record { function = f; by = None }) r h)) ∙ there.1,
    );
    known = alone;
    visited = λ j r lt h. absurd (omega (arith, lt));
  }
    where
      alone : (j : ℕ) (r : Reached) → 0 < j → slice_get (record { function = f; by = None } ∷ []) j ≡ Some r →
          (ps : List TypeId) × (parameters_of w0 r.function ≡ Some ps)
      alone zero r pos h = absurd (omega (arith, pos))
      alone (suc j) r pos h = absurd (none-some r h)

  holds-first : IsSound w0 → Holds (check_first f) w0
  holds-first sound = holds-next (record { function = f; by = None } ∷ []) 0 w0 sound (leads-itself w0) begin

-- ---- a function that isn't there

-- its check is done at once, and leaves the world as it is
module _ (f : FnId) (w0 : StageState) (gone : function_at w0 f ≡ None) where
  abbrev Alone : CheckJob → StageState → Type 0
  Alone (Take queue i) w = (queue ≡ record { function = f; by = None } ∷ []) × ((i ≡ 0) × (w ≡ w0))

  abbrev Unmoved : CheckEnd → StageState → Type 0
  Unmoved r w = w ≡ w0

  abbrev LeavesAlone : CheckJob → StageState → CheckEnd → StageState → Type 0
  LeavesAlone job w r v = Unmoved r v

  abbrev Any : StageState → Type 0
  Any w = Unit {0}

  abbrev AnyAsked : CheckQuestion → StageState → Type 0
  AnyAsked q w = Unit {0}

  abbrev AnyFits : CheckQuestion → StageState → CheckAnswer → StageState → Type 0
  AnyFits q w a v = Unit {0}

  abbrev AnyFollows : CheckQuestion → State StageState → CheckGiven → Type 0
  AnyFollows q s a = Unit {0}

  any-fits : (q : CheckQuestion) (s : State StageState) (a : CheckGiven) → AnyFollows q s a → Fine a →
      AnyFits q s.world a.answer a.state.world
  any-fits q s a h fine = tt

  abbrev HoldsAlone : CheckPlan → StageState → Type 0
  HoldsAlone p w = Meets check_job Any Alone LeavesAlone AnyAsked AnyFits AnyFollows Fine any-fits Unmoved p w

  taken-none : (o : Option Function) → o ≡ None → (queue : List Reached) (i : ℕ) (r : Reached) (w : StageState) → w ≡ w0 →
      HoldsAlone (taken o queue i r) w
  taken-none None e queue i r w same = same
  taken-none (Some g) e queue i r w same = absurd (none-some g (sym e))

  each-alone : (job : CheckJob) (w : StageState) → Any w → Alone job w → HoldsAlone (check_job job) w
  each-alone (Take queue i) w any h =
      subst (λ z. HoldsAlone (at_index (slice_get queue z) queue z) w) (sym h.1.0)
      (subst (λ l. HoldsAlone (at_index (slice_get l 0) l 0) w) (sym h.0)
      (taken-none (function_at w f) (ap (λ x. function_at x f) h.1.1 ∙ gone) (record { function = f; by = None } ∷ []) 0
      (record { function = f; by = None }) w h.1.1))

  any-run : (o : Run StageState CheckQuestion CheckAnswer CheckEnd) (next : CheckGiven) →
      FollowsRun check_job Any Alone LeavesAlone AnyAsked AnyFits AnyFollows Fine any-fits o next
  any-run (Gives r s over) next = tt
  any-run (Stops (Lacks s)) next = tt
  any-run (Stops (Waits q s)) next = tt

  any-fine : (l : List CheckGiven) → AllFine check_job Any Alone LeavesAlone AnyAsked AnyFits AnyFollows Fine any-fits l
  any-fine [] = tt
  any-fine (a ∷ l) = (tt, any-fine l)

  unmoved : (s : State StageState) → s.world ≡ w0 → (later : List CheckGiven) (r : CheckEnd) (t : State StageState)
      (over : List CheckGiven) → run (run_job check_job) (check_first f) s later ≡ Gives r t over → t.world ≡ w0
  unmoved s same later r t over e =
      meets check_job Any Alone LeavesAlone AnyAsked AnyFits AnyFollows Fine any-fits each-alone Unmoved (check_first f) s later
      (tt, ((refl, (refl, same)), λ r v l. l))
      (λ before behind next split. any-run (run (run_job check_job) (check_first f) s before) next) (any-fine later) r t over e

-- ---- both

follows-seen : (f : FnId) (w0 : StageState) (o : Run StageState CheckQuestion CheckAnswer CheckEnd) (next : CheckGiven) →
    IsCheckBackFor (shown (λ r. r) o) next →
    FollowsRun check_job IsSound (Ready f w0) (Leaves f w0) IsCheckAsked Fits IsCheckBack Fine fits o next
follows-seen f w0 (Gives r s over) next h = tt
follows-seen f w0 (Stops (Lacks s)) next h = tt
follows-seen f w0 (Stops (Waits q s)) next h = h

all-fine : (f : FnId) (w0 : StageState) (l : List CheckGiven) → AllFine check_job IsSound (Ready f w0)
    (Leaves f w0) IsCheckAsked Fits IsCheckBack Fine fits l
all-fine f w0 [] = tt
all-fine f w0 (a ∷ l) = (tt, all-fine f w0 l)

pub checks-keep-sound : ChecksKeepSound
checks-keep-sound f first later sound all = by (run (run_job check_job) (check_first f) first.state later) refl
  where
    back : (before behind : List CheckGiven) (next : CheckGiven) → later ≡ before ++ next ∷ behind →
        FollowsRun check_job IsSound (Ready f first.state.world) (Leaves f first.state.world) IsCheckAsked Fits IsCheckBack
        Fine fits (run (run_job check_job) (check_first f) first.state before) next
    back before behind next split =
        follows-seen f first.state.world (run (run_job check_job) (check_first f) first.state before) next
        (all before behind next split)

    -- where it is there behind the check, it was there before
    checked : (r : CheckEnd) (s : State StageState) (over : List CheckGiven) →
        run (run_job check_job) (check_first f) first.state later ≡ Gives r s over →
        Reached_by f first.state.world r s.world → IsCheckedAs f r s.world
    checked (ends.Refused why) s over e h = tt
    checked ends.Done s over e h = λ g at. there g at (function_at first.state.world f) refl
      where
        there : (g : Function) → function_at s.world f ≡ Some g → (o : Option Function) →
            function_at first.state.world f ≡ o → ReachesReady s.world f
        there g at (Some x) is = h (x, is)
        there g at None is =
            absurd (none-some g (sym is ∙ (ap (λ w. function_at w f)
            (sym (unmoved f first.state.world is first.state refl later ends.Done s over e)) ∙ at)))

    by : (o : Run StageState CheckQuestion CheckAnswer CheckEnd) →
        run (run_job check_job) (check_first f) first.state later ≡ o → CheckStaysSound f first (shown (λ r. r) o)
    by (Gives r s over) e =
        let h = meets check_job IsSound (Ready f first.state.world) (Leaves f first.state.world) IsCheckAsked Fits IsCheckBack
        Fine fits (each-job f first.state.world) (Goal f first.state.world) (check_first f) first.state later
        (holds-first f first.state.world sound) back (all-fine f first.state.world later) r s over e in
        (h.0, (h.1.0, checked r s over e h.1.1))
    by (Stops (Lacks s)) e = tt
    by (Stops (Waits q s)) e =
        asks check_job IsSound (Ready f first.state.world) (Leaves f first.state.world) IsCheckAsked Fits IsCheckBack Fine
        fits (each-job f first.state.world) (Goal f first.state.world) (check_first f) first.state later
        (holds-first f first.state.world sound) back (all-fine f first.state.world later) q s e
