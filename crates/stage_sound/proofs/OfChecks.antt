-- Checks, bodies, result types and layouts as layers of the stage.
use Rattle.std.proofs.Common.{◌≡◌, Option, Some, None, refl, sym, ap, ◌∙◌, subst, slice_get}
use Rattle.std.specs.Option.{option_map_or}
use Rattle.tl_base.specs.declared.ids.FnId.{FnId}
use Rattle.tl_base.specs.declared.ids.TypeId.{TypeId}
use Rattle.tl_base.specs.declared.place.Place.{Place}
use Rattle.tl_base.specs.Layer.{State, Given, Seen, Ended, SpentAt, Asks}
use Rattle.stage_form.specs.Within.{given_part, whole}
use Rattle.tl_tree.specs.Code.{Items}
use Rattle.terra_term.specs.declared.refusal.Refusal.{Refusal}
use Rattle.terra_term.specs.declared.store.Function.{Function}
use Rattle.terra_term.specs.declared.store.FunctionState.{FunctionState}
use Rattle.terra_term.specs.declared.store.FunctionState.TheVariants as standing
use Rattle.terra_term.specs.Held.{state_of, refusal_in}
use Rattle.exotype.specs.World.{StageState}
use Rattle.check_model.specs.declared.question.BodyQuestion.{BodyQuestion}
use Rattle.check_model.specs.declared.question.BodyQuestion.TheVariants as of_bodies
use Rattle.check_model.specs.declared.question.CheckQuestion.{CheckQuestion}
use Rattle.check_model.specs.declared.question.CheckQuestion.TheVariants as of_checks
use Rattle.check_model.specs.declared.question.LayoutQuestion.{LayoutQuestion}
use Rattle.check_model.specs.declared.question.LayoutQuestion.TheVariants as of_layouts
use Rattle.check_model.specs.declared.question.CheckAnswer.{CheckAnswer}
use Rattle.check_model.specs.declared.end.BodyEnd.{BodyEnd}
use Rattle.check_model.specs.declared.end.BodyEnd.TheVariants as body_ends
use Rattle.check_model.specs.declared.end.CheckEnd.{CheckEnd}
use Rattle.check_model.specs.declared.end.CheckEnd.TheVariants as check_ends
use Rattle.check_model.specs.declared.job.LayoutTask.{LayoutTask}
use Rattle.check_model.specs.declared.end.LayoutEnd.{LayoutEnd}
use Rattle.check_model.specs.declared.end.LayoutEnd.TheVariants as layout_ends
use Rattle.check_model.specs.declared.known.KnownResult.TheVariants.{NotYet, BeingTyped}
use Rattle.check_model.specs.Typing.{TypingState, function_at}
use Rattle.check_model.specs.Calls.{known_or, known_result, result_of, result_in_state, written_in}
use Rattle.check_model.specs.Keeping.{Answers, ChecksAnswer}
use Rattle.check_model.specs.Bodies.{BodyGiven, body}
use Rattle.check_model.specs.Checks.{CheckGiven, check}
use Rattle.check_model.specs.Layouts.{LayoutGiven, layout}
use Rattle.check_sound.specs.Sound.{IsSound}
use Rattle.check_sound.specs.Growing.{Leads}
use Rattle.check_sound.specs.Layers.{IsBack, IsBodyAsked, IsBodyBack, IsBodyBackFor, IsTypedAs, MayBeTyped, BodyStaysSound, IsCheckAsked}
use Rattle.check_sound.specs.Layers.{IsCheckBack, IsCheckBackFor, IsCheckedAs, CheckStaysSound, IsLaidAs, LayoutStaysSound}
use Rattle.check_sound.specs.Layers as laws
use Rattle.check_sound.proofs.Foreseen.{body-result}
use Rattle.check_sound.proofs.Leading.{leads-itself}
use Rattle.stage_check.specs.declared.jobs.Job.{Job}
use Rattle.stage_check.specs.declared.jobs.Asked.TheVariants as asked
use Rattle.stage_check.specs.declared.jobs.Job.TheVariants as jobs
use Rattle.stage_check.specs.declared.jobs.JobEnd.{JobEnd}
use Rattle.stage_check.specs.declared.jobs.JobEnd.TheVariants as ends
use Rattle.stage_check.specs.Layers.{answer_of, with_stage, job_meaning, check_fitting, check_asks, check_end, body_fitting}
use Rattle.stage_check.specs.Layers.{body_asks, body_end, result_fitting, layout_fitting, layout_asks, layout_end}
use Rattle.stage_check.specs.Results.{result_meaning, result_by, result_seen}
use Rattle.stage_form.specs.Holding.{IsBackFor, Shows, Holds}
use Rattle.stage_sound.specs.Jobs.{Begins, Says, Leaves, Came}
use Rattle.stage_sound.proofs.Layers.{LayersKeep}
use Rattle.stage_sound.proofs.Parts.{within-holds}

module _ (items : Items) (k : LayersKeep items) where
  -- what a job holds to in the stage
  abbrev pub JobHolds : Job → Given TypingState CheckAnswer → Type 0
  JobHolds job first =
      Holds Begins Came (Leaves (asked.Job job) first.state.world) (job_meaning items job) first

  -- ---- checks

  module _ (f : FnId) (first : Given TypingState CheckAnswer) where
    abbrev checks_left : CheckEnd → StageState → Type 0
    checks_left end v = IsSound v × (Leads first.state.world.stage v × IsCheckedAs f end v)

    check-shows : (o : Seen StageState CheckQuestion CheckEnd) → CheckStaysSound f (given_part check_fitting first) o →
        Shows IsCheckAsked checks_left o
    check-shows (Ended end s) h = h
    check-shows (Asks question s) h = h
    check-shows (SpentAt s) h = tt

    check-back : (o : Seen StageState CheckQuestion CheckEnd) (next : CheckGiven) → IsBackFor IsCheckBack o next →
        IsCheckBackFor o next
    check-back (Ended end s) next h = tt
    check-back (Asks question s) next h = h
    check-back (SpentAt s) next h = tt

    check-layer : IsSound first.state.world.stage → Holds IsCheckAsked IsCheckBack checks_left (check f) (given_part check_fitting first)
    check-layer sound later all =
        let p = given_part check_fitting first in
        check-shows (check f p later)
        (k.checks f p later sound
        (λ before behind next split. check-back (check f p before) next (all before behind next split)))

    abbrev beside : TypingState → Type 0
    beside w = w.variables ≡ first.state.world.variables

    check-asks : (w : TypingState) (q : CheckQuestion) (p : StageState) → beside w → IsCheckAsked q p →
        Begins (asked.Job (check_asks q)) (with_stage w p)
    check-asks w (of_checks.Body g) p b h = h

    check-leaves : (w : TypingState) (end : CheckEnd) (p : StageState) → beside w → checks_left end p →
        Leaves (asked.Job (jobs.Check f)) first.state.world (check_end end) (with_stage w p)
    check-leaves w check_ends.Done p b h = record { sound = h.0; leads = h.1.0; variables = b; says = h.1.1 }
    check-leaves w (check_ends.Refused why) p b h = record { sound = h.0; leads = h.1.0; variables = b; says = tt }

    body-says : (g : FnId) (end : JobEnd) (v : StageState) → Says (asked.Job (jobs.Body g)) end v →
        ChecksAnswer (of_checks.Body g) (answer_of end) v
    body-says g ends.Done v h = h
    body-says g (ends.Refused why) v h = tt
    body-says g (ends.Values vs) v h = absurd h
    body-says g (ends.Raised x place) v h = absurd h
    body-says g (ends.Result t) v h = absurd h
    body-says g (ends.NoLayout kind) v h = absurd h

    check-comes : (w : TypingState) (q : CheckQuestion) (s : State StageState) (next : Given TypingState CheckAnswer) →
        beside w → IsCheckAsked q s.world → Came (asked.Job (check_asks q)) (whole check_fitting w s) next →
        IsCheckBack q s (given_part check_fitting next) × beside next.state.world
    check-comes w (of_checks.Body g) s next b may h = (
      record {
        sound = h.1.1.sound;
        leads = h.1.1.leads;
        answers = subst (λ a. ChecksAnswer (of_checks.Body g) a next.state.world.stage) (sym h.1.0)
            (body-says g h.0 next.state.world.stage h.1.1.says);
      },
      h.1.1.variables ∙ b,
    )

    pub check-holds : Begins (asked.Job (jobs.Check f)) first.state.world → JobHolds (jobs.Check f) first
    check-holds begin =
        within-holds check_fitting IsCheckAsked IsCheckBack checks_left Begins Came
        (Leaves (asked.Job (jobs.Check f)) first.state.world) beside check-asks check-leaves check-comes (check f) first refl
        (check-layer begin.0)

  -- ---- layouts

  module _ (t : TypeId) (at : Place) (first : Given TypingState CheckAnswer) where
    abbrev layouts_left : LayoutEnd → StageState → Type 0
    layouts_left end v = IsSound v × (Leads first.state.world.stage v × IsLaidAs t end v)

    abbrev LayoutAsked : LayoutQuestion → StageState → Type 0
    LayoutAsked q p = IsSound p

    abbrev LayoutBack : LayoutQuestion → State StageState → LayoutGiven → Type 0
    LayoutBack q s next = IsBack s next

    layout-shows : (o : Seen StageState LayoutQuestion LayoutEnd) →
        LayoutStaysSound (record { of = t; at = at }) (given_part layout_fitting first) o → Shows LayoutAsked layouts_left o
    layout-shows (Ended end s) h = h
    layout-shows (Asks question s) h = h
    layout-shows (SpentAt s) h = tt

    layout-back : (o : Seen StageState LayoutQuestion LayoutEnd) (next : LayoutGiven) → IsBackFor LayoutBack o next →
        laws.IsBackFor o next
    layout-back (Ended end s) next h = tt
    layout-back (Asks question s) next h = h
    layout-back (SpentAt s) next h = tt

    layout-layer : IsSound first.state.world.stage →
        Holds LayoutAsked LayoutBack layouts_left (layout (record { of = t; at = at })) (given_part layout_fitting first)
    layout-layer sound later all =
        let p = given_part layout_fitting first in
        let task : LayoutTask = record { of = t; at = at } in
        layout-shows (layout task p later)
        (k.layouts task p later sound
        (λ before behind next split. layout-back (layout task p before) next (all before behind next split)))

    abbrev beside_layout : TypingState → Type 0
    beside_layout w = w.variables ≡ first.state.world.variables

    layout-asks : (w : TypingState) (q : LayoutQuestion) (p : StageState) → beside_layout w → LayoutAsked q p →
        Begins (asked.Job (layout_asks q)) (with_stage w p)
    layout-asks w (of_layouts.CallLua v vs place) p b h = (h, tt)
    layout-asks w (of_layouts.LayoutOf u place) p b h = (h, tt)

    layout-leaves : (w : TypingState) (end : LayoutEnd) (p : StageState) → beside_layout w → layouts_left end p →
        Leaves (asked.Job (jobs.Layout t at)) first.state.world (layout_end end) (with_stage w p)
    layout-leaves w layout_ends.Done p b h = record { sound = h.0; leads = h.1.0; variables = b; says = h.1.1 }
    layout-leaves w (layout_ends.Refused kind) p b h = record { sound = h.0; leads = h.1.0; variables = b; says = tt }

    layout-comes : (w : TypingState) (q : LayoutQuestion) (s : State StageState) (next : Given TypingState CheckAnswer) →
        beside_layout w → LayoutAsked q s.world → Came (asked.Job (layout_asks q)) (whole layout_fitting w s) next →
        LayoutBack q s (given_part layout_fitting next) × beside_layout next.state.world
    layout-comes w q s next b may h = ((h.1.1.sound, h.1.1.leads), h.1.1.variables ∙ b)

    pub layout-holds : Begins (asked.Job (jobs.Layout t at)) first.state.world → JobHolds (jobs.Layout t at) first
    layout-holds begin =
        within-holds layout_fitting LayoutAsked LayoutBack layouts_left Begins Came
        (Leaves (asked.Job (jobs.Layout t at)) first.state.world) beside_layout layout-asks layout-leaves layout-comes
        (layout (record { of = t; at = at })) first refl (layout-layer begin.0)

  -- ---- bodies, and the result types that they have

  -- what is asked for in a body
  body-asked : (q : BodyQuestion) (p : TypingState) → IsBodyAsked q p → Begins (asked.Job (body_asks q)) p
  body-asked (of_bodies.CallLua v vs place) p h = (h, tt)
  body-asked (of_bodies.ResultOf g) p h = h
  body-asked (of_bodies.LayoutOf u place) p h = (h, tt)

  answer-says : (q : BodyQuestion) (end : JobEnd) (v : StageState) → Says (asked.Job (body_asks q)) end v →
      Answers q (answer_of end) v
  answer-says (of_bodies.CallLua x vs place) (ends.Values us) v h = tt
  answer-says (of_bodies.CallLua x vs place) (ends.Raised y at) v h = tt
  answer-says (of_bodies.CallLua x vs place) (ends.Result t) v h = absurd h
  answer-says (of_bodies.CallLua x vs place) (ends.Refused why) v h = absurd h
  answer-says (of_bodies.CallLua x vs place) ends.Done v h = absurd h
  answer-says (of_bodies.CallLua x vs place) (ends.NoLayout kind) v h = absurd h
  answer-says (of_bodies.ResultOf g) (ends.Result t) v h = h
  answer-says (of_bodies.ResultOf g) (ends.Refused why) v h = tt
  answer-says (of_bodies.ResultOf g) (ends.Values us) v h = absurd h
  answer-says (of_bodies.ResultOf g) (ends.Raised y at) v h = absurd h
  answer-says (of_bodies.ResultOf g) ends.Done v h = absurd h
  answer-says (of_bodies.ResultOf g) (ends.NoLayout kind) v h = absurd h
  answer-says (of_bodies.LayoutOf u place) ends.Done v h = h
  answer-says (of_bodies.LayoutOf u place) (ends.NoLayout kind) v h = tt
  answer-says (of_bodies.LayoutOf u place) (ends.Values us) v h = absurd h
  answer-says (of_bodies.LayoutOf u place) (ends.Raised y at) v h = absurd h
  answer-says (of_bodies.LayoutOf u place) (ends.Result t) v h = absurd h
  answer-says (of_bodies.LayoutOf u place) (ends.Refused why) v h = absurd h

  body-came : (q : BodyQuestion) (s : State TypingState) (next : BodyGiven) → Came (asked.Job (body_asks q)) s next →
      IsBodyBack q s next
  body-came q s next h = record {
    sound = h.1.1.sound;
    leads = h.1.1.leads;
    variables = h.1.1.variables;
    answers = subst (λ a. Answers q a next.state.world.stage) (sym h.1.0)
        (answer-says q h.0 next.state.world.stage h.1.1.says);
  }

  abbrev Anywhere : TypingState → Type 0
  Anywhere w = Unit {0}

  module _ (f : FnId) (first : BodyGiven) where
    abbrev bodies_left : BodyEnd → TypingState → Type 0
    bodies_left end v =
        IsSound v.stage × (Leads first.state.world.stage v.stage × ((v.variables ≡ first.state.world.variables) ×
        IsTypedAs f end v.stage))

    body-shows : (o : Seen TypingState BodyQuestion BodyEnd) → BodyStaysSound f first o → Shows IsBodyAsked bodies_left o
    body-shows (Ended end s) h = h
    body-shows (Asks question s) h = h
    body-shows (SpentAt s) h = tt

    body-back : (o : Seen TypingState BodyQuestion BodyEnd) (next : BodyGiven) → IsBackFor IsBodyBack o next →
        IsBodyBackFor o next
    body-back (Ended end s) next h = tt
    body-back (Asks question s) next h = h
    body-back (SpentAt s) next h = tt

    body-layer : IsSound first.state.world.stage → MayBeTyped (state_of first.state.world.stage.store f) →
        Holds IsBodyAsked IsBodyBack bodies_left (body f) first
    body-layer sound may later all =
        body-shows (body f first later)
        (k.bodies f first later sound may
        (λ before behind next split. body-back (body f first before) next (all before behind next split)))

    body-leaves : (w : TypingState) (end : BodyEnd) (p : TypingState) → Anywhere w → bodies_left end p →
        Leaves (asked.Job (jobs.Body f)) first.state.world (body_end end) p
    body-leaves w (body_ends.Typed made) p b h =
        record { sound = h.0; leads = h.1.0; variables = h.1.1.0; says = (made, h.1.1.1.0) }
    body-leaves w (body_ends.Refused why) p b h = record { sound = h.0; leads = h.1.0; variables = h.1.1.0; says = tt }

    pub body-holds : Begins (asked.Job (jobs.Body f)) first.state.world → JobHolds (jobs.Body f) first
    body-holds begin =
        within-holds body_fitting IsBodyAsked IsBodyBack bodies_left Begins Came (Leaves (asked.Job (jobs.Body f)) first.state.world)
        Anywhere (λ w q p b h. body-asked q p h) body-leaves (λ w q s next b may h. (body-came q s next h, tt)) (body f) first tt
        (body-layer begin.0 (subst MayBeTyped (sym begin.1.1) tt))

    -- ---- result types

    abbrev results_left : JobEnd → TypingState → Type 0
    results_left end v = Leaves (asked.Job (jobs.Result f)) first.state.world end v

    result-shows : (o : Seen TypingState BodyQuestion BodyEnd) → BodyStaysSound f first o →
        Shows IsBodyAsked results_left (result_seen o)
    result-shows (Ended (body_ends.Typed made) s) h =
        record { sound = h.0; leads = h.1.0; variables = h.1.1.0; says = h.1.1.1.1 }
    result-shows (Ended (body_ends.Refused why) s) h =
        record { sound = h.0; leads = h.1.0; variables = h.1.1.0; says = tt }
    result-shows (Asks question s) h = h
    result-shows (SpentAt s) h = tt

    result-back : (o : Seen TypingState BodyQuestion BodyEnd) (next : BodyGiven) → IsBackFor IsBodyBack (result_seen o) next →
        IsBodyBackFor o next
    result-back (Ended end s) next h = tt
    result-back (Asks question s) next h = h
    result-back (SpentAt s) next h = tt

    -- whose result type isn't known, and which wasn't refused
    known-apart : (o : Option TypeId) → known_or o BeingTyped ≡ NotYet → ⊥
    known-apart None e = cc e
    known-apart (Some t) e = cc e

    is-apart : (t : TypeId) → known_or (Some t) NotYet ≡ NotYet → ⊥
    is-apart t e = cc e

    refused-apart : (why : Refusal) → ◌≡◌ {A = Option Refusal} (Some why) None → ⊥
    refused-apart why e = cc e

    may-be-typed : IsSound first.state.world.stage → (o : Option Function) → function_at first.state.world.stage f ≡ o →
        result_in_state first.state.world.stage o ≡ NotYet →
        refusal_in (option_map_or (λ (x : Function). x.state) o standing.Undefined) ≡ None →
        MayBeTyped (option_map_or (λ (x : Function). x.state) o standing.Undefined)
    may-be-typed sound None at unknown free = tt
    may-be-typed sound (Some g) at unknown free = by g.state refl unknown free
      where
        by : (s : FunctionState) → g.state ≡ s → known_result first.state.world.stage g s ≡ NotYet → refusal_in s ≡ None →
            MayBeTyped s
        by standing.Undefined is unknown free = tt
        by (standing.Defined t) is unknown free = tt
        by (standing.Typing t) is unknown free =
            absurd (known-apart (written_in (slice_get first.state.world.stage.store.terms t.0)) unknown)
        by (standing.Typed t made) is unknown free =
            let has = sound.typed_bodies f t made g at is in
            absurd (is-apart has.body.result
            (ap (λ o. known_or o NotYet) (sym (body-result first.state.world.stage made has.body has.there)) ∙ unknown))
        by (standing.Refused t why) is unknown free = absurd (refused-apart why free)

    result-layer : IsSound first.state.world.stage → result_of first.state.world.stage f ≡ NotYet →
        Holds IsBodyAsked IsBodyBack results_left (result_meaning f) first
    result-layer sound unknown later all = by (refusal_in (state_of first.state.world.stage.store f)) refl
      where
        by : (o : Option Refusal) → refusal_in (state_of first.state.world.stage.store f) ≡ o →
            Shows IsBodyAsked results_left (result_by o f first later)
        by (Some why) is =
            record { sound = sound; leads = leads-itself first.state.world.stage; variables = refl; says = tt }
        by None is =
            result-shows (body f first later)
            (k.bodies f first later sound
            (may-be-typed sound (function_at first.state.world.stage f) refl unknown is)
            (λ before behind next split. result-back (body f first before) next
            (subst (λ o. IsBackFor IsBodyBack (result_by o f first before) next) is (all before behind next split))))

    pub result-holds : Begins (asked.Job (jobs.Result f)) first.state.world → JobHolds (jobs.Result f) first
    result-holds begin =
        within-holds result_fitting IsBodyAsked IsBodyBack results_left Begins Came (Leaves (asked.Job (jobs.Result f)) first.state.world)
        Anywhere (λ w q p b h. body-asked q p h) (λ w end p b h. h) (λ w q s next b may h. (body-came q s next h, tt))
        (result_meaning f) first tt (result-layer begin.0 begin.1)
