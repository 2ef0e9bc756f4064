-- Layouts keep worlds sound.
use Rattle.std.proofs.Common.{◌≡◌, ℕ, Bool, true, false, List, [], ◌∷◌, ◌++◌, Option, Some, None, refl, sym, ap, ◌∙◌, subst, slice_get}
use Rattle.std.specs.Prelude.{codes, if◌then◌else◌, unwrap_or, is_some}
use Rattle.tl_base.specs.declared.place.Place.{Place}
use Rattle.tl_base.specs.declared.ids.TypeId.{TypeId}
use Rattle.tl_base.specs.Layer.{State}
use Rattle.tl_base.specs.Plan.{Give, AskFor, Read, Run, Gives, Stops, Lacks, Waits, run, run_job, shown}
use Rattle.lua_value.specs.declared.value.Value.{Value}
use Rattle.lua_value.specs.declared.value.Value.TheVariants as values
use Rattle.lua_value.specs.Values.{is_nil}
use Rattle.lua_table.specs.Cells.{first_value}
use Rattle.terra_types.specs.declared.layout.Entry.{Entry}
use Rattle.terra_types.specs.declared.layout.Layout.{Layout}
use Rattle.terra_types.specs.declared.types.TypeForm.{TypeForm}
use Rattle.terra_types.specs.declared.types.TypeForm.TheVariants as forms
use Rattle.terra_types.specs.Layouts.{layout_of}
use Rattle.terra_types.specs.Making.{with_settled}
use Rattle.terra_types.specs.Sizes.{for_some, size_of}
use Rattle.terra_types.proofs.Growing.{plain-measure}
use Rattle.terra_term.specs.declared.refusal.RefusalKind.{RefusalKind}
use Rattle.terra_term.specs.declared.refusal.RefusalKind.TheVariants as refusals
use Rattle.exotype.specs.World.{StageState}
use Rattle.exotype.specs.Properties.{known_of, with_known}
use Rattle.exotype.specs.declared.property.Property.TheVariants.{Entries}
use Rattle.exotype.specs.declared.property.Known.{Known}
use Rattle.exotype.specs.declared.property.Known.TheVariants as known
use Rattle.check_model.specs.declared.question.LayoutQuestion.{LayoutQuestion}
use Rattle.check_model.specs.declared.question.LayoutQuestion.TheVariants.{CallLua, LayoutOf}
use Rattle.check_model.specs.declared.question.CheckAnswer.{CheckAnswer}
use Rattle.check_model.specs.declared.question.CheckAnswer.TheVariants as answers
use Rattle.check_model.specs.Typing.{form_in, is_aggregate_form}
use Rattle.check_model.specs.Structs.{metamethod, entries_at}
use Rattle.check_model.specs.Keeping.{IsLaidOut}
use Rattle.check_model.specs.Layouts.{LayoutPlan, LayoutGiven, kept_as, keep, settle, unless_settled, settled_as, parts_of, with_entries}
use Rattle.check_model.specs.Layouts.{by_entries, on_values, on_part, asked_entries, by_known, by_form, sized, entries_from, layout_first}
use Rattle.check_model.specs.Layouts.{layout_job, close_layout}
use Rattle.check_sound.specs.Sound.{IsSound}
use Rattle.check_sound.specs.Growing.{Leads}
use Rattle.check_sound.specs.Layers.{IsBack, IsBackFor, IsLaidAs, LayoutStaysSound, LayoutsKeepSound}
use Rattle.check_sound.proofs.Leading.{leads-itself, leads-twice}
use Rattle.check_sound.proofs.Settling.{settles, kept_else, kept-leads, kept-sound, put-settled, settling-sound}
use Rattle.check_sound.proofs.Meeting.{Meets, FollowsRun, AllFine, meets, asks}

-- ---- what layouts need, and what they leave

abbrev Fits : LayoutQuestion → StageState → CheckAnswer → StageState → Type 0
Fits q w a v = IsSound v × Leads w v

abbrev Asked : LayoutQuestion → StageState → Type 0
Asked q w = IsSound w

-- there are no jobs
abbrev Ready : Unit {0} → StageState → Type 0
Ready j w = ⊥

abbrev Fine : LayoutGiven → Type 0
Fine a = Unit {0}

fits : (q : LayoutQuestion) (s : State StageState) (a : LayoutGiven) → IsBack s a → Fine a → Fits q s.world a.answer a.state.world
fits q s a h fine = h

abbrev Follows : LayoutQuestion → State StageState → LayoutGiven → Type 0
Follows q s next = IsBack s next

-- what is kept of a refusal is no value
refused-apart : (kind : RefusalKind) (v : Value) → known.Refused kind ≡ known.Value v → ⊥
refused-apart kind v e = cc e

asked-apart : (v : Value) → known.Asked ≡ known.Value v → ⊥
asked-apart v e = cc e

unasked-apart : (v : Value) → known.Unasked ≡ known.Value v → ⊥
unasked-apart v e = cc e

kept-no-value : (kind : RefusalKind) (v : Value) → kept_as kind ≡ known.Value v → ⊥
kept-no-value refusals.Incomplete v e = unasked-apart v e
kept-no-value kind v e = refused-apart kind v e

-- a layout of a type, from a world on
module _ (t : TypeId) (w0 : StageState) where
  abbrev Goal : CheckAnswer → StageState → Type 0
  Goal r w = IsSound w × (Leads w0 w × IsLaidAs t (close_layout r) w)

  abbrev Leaves : Unit {0} → StageState → CheckAnswer → StageState → Type 0
  Leaves job w r v = Goal r v

  abbrev Holds : LayoutPlan → StageState → Type 0
  Holds p w = Meets layout_job IsSound Ready Leaves Asked Fits Follows Fine fits Goal p w

  -- where a plan stands: a sound world that has grown
  record Stands (w : StageState) : Type 0 where
    sound : IsSound w
    leads : Leads w0 w

  refuses : (w : StageState) → Stands w → (kind : RefusalKind) → Goal (answers.NoLayout kind) w
  refuses w s kind = (s.sound, (s.leads, tt))

  -- ---- what is kept

  stands-settling : (w : StageState) → Stands w → (k : Known) →
      ((v : Value) → k ≡ known.Value v → is_some (size_of w.store.types t) ≡ true) →
      Stands (kept_else w (settled_as (known_of w.kept (Entries t)) w.kept t k))
  stands-settling w s k value =
      let next = settled_as (known_of w.kept (Entries t)) w.kept t k in
      record {
        sound = settling-sound w s.sound t k value (known_of w.kept (Entries t));
        leads = leads-twice w0 w (kept_else w next) s.leads (kept-leads w s.sound next);
      }

  holds-keep : (w : StageState) → Stands w → (kind : RefusalKind) → Holds (keep t kind) w
  holds-keep w s kind =
      let v = kept_else w (settled_as (known_of w.kept (Entries t)) w.kept t (kept_as kind)) in
      refuses v (stands-settling w s (kept_as kind) (λ v e. absurd (kept-no-value kind v e))) kind

  laid-by : (c : Bool) (w : StageState) → is_some (size_of w.store.types t) ≡ true → IsLaidOut w t c
  laid-by true w h = h
  laid-by false w h = tt

  -- where the size is known
  holds-done : (w : StageState) → Stands w → is_some (size_of w.store.types t) ≡ true → Goal answers.Done w
  holds-done w s h = (s.sound, (s.leads, laid-by (is_aggregate_form (form_in w t)) w h))

  holds-settled : (w : StageState) → Stands w → (v : Value) → is_some (size_of w.store.types t) ≡ true →
      Goal answers.Done (kept_else w (settled_as (known_of w.kept (Entries t)) w.kept t (known.Value v)))
  holds-settled w s v h =
      holds-done (kept_else w (settled_as (known_of w.kept (Entries t)) w.kept t (known.Value v)))
      (stands-settling w s (known.Value v) (λ u e. h)) h

  -- ---- a struct

  -- the type is a struct, and stays one
  abbrev IsStruct : StageState → Type 0
  IsStruct w = (n : ℕ) × ((p : Place) × ((l : Option Layout) × (slice_get w.store.types t.0 ≡ Some (forms.Struct n p l))))

  struct-on : (w v : StageState) → Leads w v → IsStruct w → IsStruct v
  struct-on w v g is = by is.0 is.1.0 is.1.1.0 is.1.1.1
    where
      by : (n : ℕ) (p : Place) (l : Option Layout) → slice_get w.store.types t.0 ≡ Some (forms.Struct n p l) → IsStruct v
      by n p None at =
          let now = g.grows.types t.0 (forms.Struct n p None) at in
          (n, (p, (now.1.1.0, now.1.0 ∙ ap (λ f. Some f) now.1.1.1)))
      by n p (Some l) at =
          let now = g.grows.types t.0 (forms.Struct n p (Some l)) at in
          (n, (p, (Some l, now.1.0 ∙ ap (λ f. Some f) now.1.1)))

  holds-unsettled : (w : StageState) → Stands w → IsStruct w → (v : Value) (xs : List Entry) →
      Holds (unless_settled w t v (layout_of w.store.types xs)) w
  holds-unsettled w s is v xs = by is.0 is.1.0 is.1.1.0 is.1.1.1
    where
      laid : (n : ℕ) (p : Place) → slice_get w.store.types t.0 ≡ Some (forms.Struct n p None) →
          (o : Option Layout) → layout_of w.store.types xs ≡ o → Holds (settle t v o) w
      laid n p at None e = holds-keep w s refusals.BadEntries
      laid n p at (Some l) e =
          let z = settles w s.sound t n p at xs l e in
          let x : StageState = record w { store = record w.store { types = with_settled w.store.types t (Some l) } } in
          holds-settled x (record { sound = z.sound; leads = leads-twice w0 w x s.leads z.leads }) v z.size

      by : (n : ℕ) (p : Place) (l : Option Layout) → slice_get w.store.types t.0 ≡ Some (forms.Struct n p l) →
          Holds (unless_settled w t v (layout_of w.store.types xs)) w
      by n p None at = rw at (laid n p at (layout_of w.store.types xs) refl)
      by n p (Some l) at =
          rw at (holds-settled w s v (ap (λ o. is_some (for_some o (λ m. Some m.size)))
          (plain-measure w.store.types t.0 (forms.Struct n p (Some l)) refl at)))

  on-part-of : (a : CheckAnswer) (rest : LayoutPlan) (y : StageState) → Stands y → Holds rest y →
      Holds (on_part a (keep t) rest) y
  on-part-of (answers.NoLayout kind) rest y now h = holds-keep y now kind
  on-part-of answers.Go rest y now h = h
  on-part-of (answers.Values vs) rest y now h = h
  on-part-of (answers.Raise v place) rest y now h = h
  on-part-of (answers.Result u) rest y now h = h
  on-part-of (answers.Refused why) rest y now h = h
  on-part-of answers.Done rest y now h = h

  holds-parts : (v : Value) (at : Place) (all xs : List Entry) (w : StageState) → Stands w → IsStruct w →
      Holds (parts_of t xs at (Read (λ x. unless_settled x t v (layout_of x.store.types all)))) w
  holds-parts v at all [] w s is = holds-unsettled w s is v all
  holds-parts v at all (x ∷ xs) w s is = (
    s.sound,
    λ a y h.
        let now : Stands y = record { sound = h.0; leads = leads-twice w0 w y s.leads h.1 } in
        on-part-of a (parts_of t xs at (Read (λ z. unless_settled z t v (layout_of z.store.types all)))) y now
        (holds-parts v at all xs y now (struct-on w y h.1 is)),
  )

  holds-with-entries : (v : Value) (at : Place) (w : StageState) → Stands w → IsStruct w → (o : Option (List Entry)) →
      Holds (with_entries t v o at) w
  holds-with-entries v at w s is None = holds-keep w s refusals.BadEntries
  holds-with-entries v at w s is (Some xs) = holds-parts v at xs xs w s is

  holds-entries : (v : Value) (at : Place) (w : StageState) → Stands w → IsStruct w → Holds (by_entries t v at) w
  holds-entries v at w s is = holds-with-entries v at w s is (entries_from w.heap v)

  -- the entries are the first value that Lua gives
  holds-values : (a : CheckAnswer) (at : Place) (w : StageState) → Stands w → IsStruct w → Holds (on_values a t at) w
  holds-values (answers.Values vs) at w s is = holds-entries (first_value vs) at w s is
  holds-values answers.Go at w s is = holds-keep w s refusals.CallbackRaised
  holds-values (answers.Raise v place) at w s is = holds-keep w s refusals.CallbackRaised
  holds-values (answers.Result u) at w s is = holds-keep w s refusals.CallbackRaised
  holds-values (answers.Refused why) at w s is = holds-keep w s refusals.CallbackRaised
  holds-values answers.Done at w s is = holds-keep w s refusals.CallbackRaised
  holds-values (answers.NoLayout kind) at w s is = holds-keep w s refusals.CallbackRaised

  holds-asked : (x w : StageState) (h : Value) (at : Place) → Stands w → IsStruct w → Holds (asked_entries x h t at) w
  holds-asked x w h at s is = by (is_nil h)
    where
      by : (c : Bool) → Holds (if c then by_entries t (entries_at x t) at
          else AskFor (CallLua h (values.TerraType t ∷ []) at) (λ a. on_values a t at)) w
      by true = holds-entries (entries_at x t) at w s is
      by false = (
        s.sound,
        λ a y f.
            holds-values a at y (record { sound = f.0; leads = leads-twice w0 w y s.leads f.1 })
            (struct-on w y f.1 is),
      )

  holds-known : (w : StageState) (k : Known) (at : Place) → known_of w.kept (Entries t) ≡ k → Stands w → IsStruct w →
      Holds (by_known w k t at) w
  holds-known w (known.Value v) at e s is = holds-done w s (s.sound.settled t v e)
  holds-known w (known.Refused kind) at e s is = refuses w s kind
  holds-known w known.Asked at e s is = refuses w s refusals.Incomplete
  holds-known w known.Unasked at e s is =
      let next = with_known w.kept (Entries t) known.Asked in
      holds-asked w (kept_else w next) (metamethod w t (codes "__getentries")) at
      (record {
        sound = kept-sound w s.sound next (put-settled w s.sound t known.Asked (λ v e. absurd (asked-apart v e)));
        leads = leads-twice w0 w (kept_else w next) s.leads (kept-leads w s.sound next);
      }) is

  -- ---- each type

  holds-array : (w : StageState) → Stands w → (of : TypeId) (at : Place) →
      Holds (AskFor (LayoutOf of at) (λ a. on_part a (λ kind. Give (answers.NoLayout kind))
      (Read (λ v. sized (size_of v.store.types t))))) w
  holds-array w s of at = (s.sound, λ a y h. answered a y (record { sound = h.0; leads = leads-twice w0 w y s.leads h.1 }))
    where
      size : (y : StageState) → Stands y → (o : Option ℕ) → size_of y.store.types t ≡ o → Holds (sized o) y
      size y s (Some n) e = holds-done y s (ap is_some e)
      size y s None e = refuses y s refusals.BadEntries

      answered : (a : CheckAnswer) (y : StageState) → Stands y →
          Holds (on_part a (λ kind. Give (answers.NoLayout kind))
          (Read (λ v. sized (size_of v.store.types t)))) y
      answered (answers.NoLayout kind) y s = refuses y s kind
      answered answers.Go y s = size y s (size_of y.store.types t) refl
      answered (answers.Values vs) y s = size y s (size_of y.store.types t) refl
      answered (answers.Raise v2 place) y s = size y s (size_of y.store.types t) refl
      answered (answers.Result u) y s = size y s (size_of y.store.types t) refl
      answered (answers.Refused why) y s = size y s (size_of y.store.types t) refl
      answered answers.Done y s = size y s (size_of y.store.types t) refl

  -- what is no aggregate needs none
  flat : (w : StageState) → Stands w → (f : TypeForm) → form_in w t ≡ f → is_aggregate_form f ≡ false → Goal answers.Done w
  flat w s f e plain = (s.sound, (s.leads, subst (λ c. IsLaidOut w t c) (sym (ap is_aggregate_form e ∙ plain)) tt))

  struct-at : (w : StageState) (n : ℕ) (p : Place) (l : Option Layout) (o : Option TypeForm) → slice_get w.store.types t.0 ≡ o →
      unwrap_or o forms.Unit ≡ forms.Struct n p l → slice_get w.store.types t.0 ≡ Some (forms.Struct n p l)
  struct-at w n p l (Some f) at e = at ∙ ap (λ x. Some x) e
  struct-at w n p l None at e = absurd (apart e)
    where
      apart : forms.Unit ≡ forms.Struct n p l → ⊥
      apart e = cc e

  holds-form : (w : StageState) → Stands w → (f : TypeForm) (at : Place) → form_in w t ≡ f → Holds (by_form w f t at) w
  holds-form w s (forms.Struct n p l) at e =
      holds-known w (known_of w.kept (Entries t)) at refl s
      (n, (p, (l, struct-at w n p l (slice_get w.store.types t.0) refl e)))
  holds-form w s (forms.Array of n) at e = holds-array w s of at
  holds-form w s (forms.Integer i) at e = flat w s (forms.Integer i) e refl
  holds-form w s forms.Bool at e = flat w s forms.Bool e refl
  holds-form w s forms.Unit at e = flat w s forms.Unit e refl
  holds-form w s (forms.Pointer u) at e = flat w s (forms.Pointer u) e refl
  holds-form w s (forms.Function ps r) at e = flat w s (forms.Function ps r) e refl

-- ---- the whole

follows-seen : (t : TypeId) (w0 : StageState) (o : Run StageState LayoutQuestion CheckAnswer CheckAnswer) (next : LayoutGiven) →
    IsBackFor (shown close_layout o) next →
    FollowsRun layout_job IsSound Ready (Leaves t w0) Asked Fits Follows Fine fits o next
follows-seen t w0 (Gives r s over) next h = tt
follows-seen t w0 (Stops (Lacks s)) next h = tt
follows-seen t w0 (Stops (Waits q s)) next h = h

all-fine : (t : TypeId) (w0 : StageState) (l : List LayoutGiven) →
    AllFine layout_job IsSound Ready (Leaves t w0) Asked Fits Follows Fine fits l
all-fine t w0 [] = tt
all-fine t w0 (a ∷ l) = (tt, all-fine t w0 l)

pub layouts-keep-sound : LayoutsKeepSound
layouts-keep-sound task first later sound all = by (run (run_job layout_job) (layout_first task) first.state later) refl
  where
    held : Holds task.of first.state.world (layout_first task) first.state.world
    held = holds-form task.of first.state.world first.state.world
        (record { sound = sound; leads = leads-itself first.state.world }) (form_in first.state.world task.of) task.at refl

    back : (before behind : List LayoutGiven) (next : LayoutGiven) → later ≡ before ++ next ∷ behind →
        FollowsRun layout_job IsSound Ready (Leaves task.of first.state.world) Asked Fits Follows Fine fits
        (run (run_job layout_job) (layout_first task) first.state before) next
    back before behind next split =
        follows-seen task.of first.state.world (run (run_job layout_job) (layout_first task) first.state before) next
        (all before behind next split)

    by : (o : Run StageState LayoutQuestion CheckAnswer CheckAnswer) →
        run (run_job layout_job) (layout_first task) first.state later ≡ o → LayoutStaysSound task first (shown close_layout o)
    by (Gives r s over) e =
        meets layout_job IsSound Ready (Leaves task.of first.state.world) Asked Fits Follows Fine fits
        (λ job w good never. absurd never) (Goal task.of first.state.world) (layout_first task) first.state later
        held back (all-fine task.of first.state.world later) r s over e
    by (Stops (Lacks s)) e = tt
    by (Stops (Waits q s)) e =
        asks layout_job IsSound Ready (Leaves task.of first.state.world) Asked Fits Follows Fine fits
        (λ job w good never. absurd never) (Goal task.of first.state.world) (layout_first task) first.state later
        held back (all-fine task.of first.state.world later) q s e
