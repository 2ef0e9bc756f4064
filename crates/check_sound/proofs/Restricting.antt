-- A store with what a check reached alone is typed.
use Rattle.std.proofs.Common.{◌≡◌, ℕ, zero, suc, ◌+◌, Bool, true, false, List, [], ◌∷◌, Option, Some, None, refl, sym, ap, ◌∙◌, subst}
use Rattle.std.proofs.Common.{arith, slice_get}
use Rattle.std.specs.Prelude.{if◌then◌else◌}
use Rattle.tl_base.specs.declared.ids.FnId.{FnId}
use Rattle.tl_base.specs.declared.ids.TermId.{TermId}
use Rattle.terra_term.specs.declared.store.Function.{Function}
use Rattle.terra_term.specs.declared.store.FunctionState.{FunctionState}
use Rattle.terra_term.specs.declared.store.FunctionState.TheVariants as standing
use Rattle.terra_term.specs.Held.{typed_in}
use Rattle.terra_term.specs.Events.{body_events, mentions_in}
use Rattle.terra_term.specs.Planted.{typed_trees}
use Rattle.terra_term.specs.Stores.{Contents, Callable, callable_of, contents_of}
use Rattle.terra_term.specs.TypedTerms as typed
use Rattle.terra_term.specs.WellTyped.{body_typed, has_type}
use Rattle.exotype.specs.World.{StageState}
use Rattle.check_model.specs.declared.job.Reached.{Reached}
use Rattle.check_model.specs.Typing.{function_at}
use Rattle.check_model.specs.Checks.{was_reached, mentions_of, mentions_at, typed_mentions, mentions_in_state}
use Rattle.check_sound.specs.Sound.{IsSound, IsReady}
use Rattle.check_sound.specs.Reached.{unreached, reached_from, only_reached, ReachedStoresAreTyped}
use Rattle.check_sound.proofs.Tests.{none-some, same-some}
use Rattle.check_sound.proofs.Knowing.{called-as, uncalled}
use Rattle.check_sound.proofs.Growing.{body-stays}
use Rattle.check_sound.proofs.Grows.{keeps-types-of}
use Rattle.check_sound.proofs.Worlds.{fair-of}
use Rattle.check_sound.proofs.Reaching.{mention-of}

-- ---- the functions

kept-at : (n : ℕ) (queue : List Reached) (fs : List Function) (i : ℕ) (g : Function) → slice_get fs i ≡ Some g →
    slice_get (reached_from n queue fs) i ≡ Some (if was_reached (record { 0 = n + i }) queue then g else unreached g)
kept-at n queue [] i g h = absurd (none-some g h)
kept-at n queue (x ∷ fs) zero g h =
    let e : x ≡ g = same-some x g h in
    let same : n ≡ n + 0 = omega arith in
    ap (λ y. Some (if was_reached (record { 0 = n }) queue then y else unreached y)) e ∙
    ap (λ (m : ℕ). Some (if was_reached (record { 0 = m }) queue then g else unreached g)) same
kept-at n queue (x ∷ fs) (suc i) g h =
    let same : suc n + i ≡ n + suc i = omega arith in
    kept-at (suc n) queue fs i g h ∙
    ap (λ (m : ℕ). Some (if was_reached (record { 0 = m }) queue then g else unreached g)) same

gone-at : (n : ℕ) (queue : List Reached) (fs : List Function) (i : ℕ) → slice_get fs i ≡ None →
    slice_get (reached_from n queue fs) i ≡ None
gone-at n queue [] i h = refl
gone-at n queue (x ∷ fs) zero h = absurd (none-some x (sym h))
gone-at n queue (x ∷ fs) (suc i) h = gone-at (suc n) queue fs i h

-- one that is found is called as it is, and one that isn't defined can't be called
none-called : (c : Contents) (f : FnId) (g : Function) → slice_get c.functions f.0 ≡ Some (unreached g) →
    callable_of c f ≡ None
none-called c f g h = rw h refl

no-function : (c : Contents) (f : FnId) → slice_get c.functions f.0 ≡ None → callable_of c f ≡ None
no-function c f h = rw h refl

same-called : (c d : Contents) (f : FnId) (g : Function) → c.typed ≡ d.typed → slice_get c.functions f.0 ≡ Some g →
    slice_get d.functions f.0 ≡ Some g → callable_of c f ≡ callable_of d f
same-called c d f g e h k = rw (h, k, e) refl

module _ (w : StageState) (queue : List Reached) where
  abbrev whole : Contents
  whole = contents_of w.store

  abbrev part : Contents
  part = only_reached queue whole

  in-part : (f : FnId) (g : Function) → function_at w f ≡ Some g →
      slice_get part.functions f.0 ≡ Some (if was_reached f queue then g else unreached g)
  in-part f g h =
      let same : 0 + f.0 ≡ f.0 = omega arith in
      kept-at 0 queue w.store.functions f.0 g h ∙
      ap (λ (m : ℕ). Some (if was_reached (record { 0 = m }) queue then g else unreached g)) same

  -- what was reached is called as in the whole store
  same-by : (f : FnId) → was_reached f queue ≡ true → (o : Option Function) → function_at w f ≡ o →
      callable_of part f ≡ callable_of whole f
  same-by f r None h =
      no-function part f (gone-at 0 queue w.store.functions f.0 h) ∙ sym (no-function whole f h)
  same-by f r (Some g) h =
      same-called part whole f g refl (in-part f g h ∙ ap (λ c. Some (if c then g else unreached g)) r) h

  -- and nothing else can be called
  other-by : (f : FnId) → was_reached f queue ≡ false → (o : Option Function) → function_at w f ≡ o →
      callable_of part f ≡ None
  other-by f r None h = no-function part f (gone-at 0 queue w.store.functions f.0 h)
  other-by f r (Some g) h = none-called part f g (in-part f g h ∙ ap (λ c. Some (if c then g else unreached g)) r)

  -- ---- what a function that can be called mentions

  mentions-by : (f : FnId) (k : Callable) (g : Function) (t made : TermId) → function_at w f ≡ Some g →
      g.state ≡ standing.Typed t made → callable_of whole f ≡ Some k → (i : Option typed.Item) →
      slice_get (typed_trees w.store.typed) made.0 ≡ i → mentions_at w f ≡ mentions_in (body_events k.body)
  mentions-by f k g t made at is called (Some (typed.body b)) item =
      let same : b ≡ k.body =
      ap (λ x. x.body) (same-some (record { at = g.place; body = b }) k
      (sym (called-as whole f g made b at (ap typed_in is) item) ∙ called)) in
      ap (mentions_in_state w) at ∙ (ap (typed_mentions w) is ∙
      (ap mentions_of item ∙ ap (λ x. mentions_in (body_events x)) same))
  mentions-by f k g t made at is called None item =
      let none : callable_of whole f ≡ None = rw (at, is, item) refl in absurd (none-some k (sym none ∙ called))
  mentions-by f k g t made at is called (Some (typed.expression x)) item =
      let none : callable_of whole f ≡ None = rw (at, is, item) refl in absurd (none-some k (sym none ∙ called))
  mentions-by f k g t made at is called (Some (typed.doing x)) item =
      let none : callable_of whole f ≡ None = rw (at, is, item) refl in absurd (none-some k (sym none ∙ called))

  mentions-state : (f : FnId) (k : Callable) (g : Function) (s : FunctionState) → function_at w f ≡ Some g →
      g.state ≡ s →
      callable_of whole f ≡ Some k → mentions_at w f ≡ mentions_in (body_events k.body)
  mentions-state f k g (standing.Typed t made) at is called =
      mentions-by f k g t made at is called (slice_get (typed_trees w.store.typed) made.0) refl
  mentions-state f k g standing.Undefined at is called =
      absurd (none-some k (sym (uncalled whole f g at (ap typed_in is)) ∙ called))
  mentions-state f k g (standing.Defined t) at is called =
      absurd (none-some k (sym (uncalled whole f g at (ap typed_in is)) ∙ called))
  mentions-state f k g (standing.Typing t) at is called =
      absurd (none-some k (sym (uncalled whole f g at (ap typed_in is)) ∙ called))
  mentions-state f k g (standing.Refused t why) at is called =
      absurd (none-some k (sym (uncalled whole f g at (ap typed_in is)) ∙ called))

  pub mentions-called : (f : FnId) (k : Callable) → callable_of whole f ≡ Some k →
      (o : Option Function) → function_at w f ≡ o →
      mentions_at w f ≡ mentions_in (body_events k.body)
  mentions-called f k called None at = absurd (none-some k (sym (no-function whole f at) ∙ called))
  mentions-called f k called (Some g) at = mentions-state f k g g.state at refl called

  -- ---- the law

  module _ (sound : IsSound w) (all : (g : FnId) → was_reached g queue ≡ true → IsReady w queue g) where
    same-callable : (f : FnId) → was_reached f queue ≡ true → callable_of part f ≡ callable_of whole f
    same-callable f r = same-by f r (function_at w f) refl

    passes : (f : FnId) (k : Callable) → was_reached f queue ≡ true → callable_of whole f ≡ Some k →
        body_typed part k.body ≡ true
    passes f k r called =
        let own = all f r in
        let same : own.callable.0 ≡ k = same-some own.callable.0 k (sym own.callable.1 ∙ called) in
        body-stays whole part (keeps-types-of w) sound.types sound.types (fair-of w sound).lies k.body
        (λ x names ps q p.
        let m = mention-of x (body_events k.body) names in
        let there : was_reached x queue ≡ true =
        subst (λ z. was_reached z queue ≡ true) m.1.1.1
        (own.reached m.0 m.1.0 (ap (λ l. slice_get l m.0) (mentions-called f k called (function_at w f) refl) ∙
        m.1.1.0)) in
        ap (has_type ps q) (same-callable x there) ∙ p)
        (subst (λ (z : Callable). body_typed whole z.body ≡ true) same own.callable.2)

    typed-part : (f : FnId) (k : Callable) → callable_of part f ≡ Some k → (c : Bool) → was_reached f queue ≡ c →
        body_typed part k.body ≡ true
    typed-part f k called true r = passes f k r (sym (same-callable f r) ∙ called)
    typed-part f k called false r = absurd (none-some k (sym (other-by f r (function_at w f) refl) ∙ called))

pub reached-typed : ReachedStoresAreTyped
reached-typed w queue sound all = (
  λ g r. same-callable w queue sound all g r,
  λ g k called. typed-part w queue sound all g k called
      (was_reached g queue) refl,
)
