-- What a check goes through: a queue whose functions are typed so far, and what they mention is in it.
use Rattle.std.proofs.Common.{◌≡◌, ℕ, zero, suc, Bool, true, false, List, [], ◌∷◌, ◌++◌, append_assoc, append-nil, Option, Some, None, refl}
use Rattle.std.proofs.Common.{sym, ap, ◌∙◌, subst, arith, slice_get}
use Rattle.std.specs.Prelude.{◌==◌, ◌||◌, ◌⊎◌, if◌then◌else◌}
use mathlib.Core.Logic.{inl, inr}
use Rattle.std.specs.Option.{option_map_or}
use Rattle.std.proofs.lemmas.Bool.{eqb-true, eq-eqb, or_cases, or_left, or_right}
use Rattle.std.proofs.lemmas.Option.{slice_get_within}
use Rattle.tl_base.specs.declared.place.Place.{Place}
use Rattle.tl_base.specs.declared.ids.FnId.{FnId}
use Rattle.tl_base.specs.declared.ids.TermId.{TermId}
use Rattle.tl_base.specs.declared.ids.TypeId.{TypeId}
use Rattle.terra_term.specs.declared.store.Function.{Function}
use Rattle.terra_term.specs.declared.store.FunctionState.{FunctionState}
use Rattle.terra_term.specs.declared.store.FunctionState.TheVariants as standing
use Rattle.terra_term.specs.Held.{state_of, typed_in}
use Rattle.terra_term.specs.Planted.{typed_trees}
use Rattle.terra_term.specs.Stores.{Callable, callable_of, contents_of}
use Rattle.terra_term.specs.Events.{Event, Opens, Closes, Declares, Takes, Uses, Mentions, body_events, mentions_in}
use Rattle.terra_term.specs.WellTyped.{body_typed, has_type}
use Rattle.exotype.specs.World.{StageState}
use Rattle.check_model.specs.declared.job.Reached.{Reached}
use Rattle.check_model.specs.Typing.{function_at}
use Rattle.check_model.specs.Calls.{parameters_of}
use Rattle.check_model.specs.Checks.{was_reached, with_mentions, mentions_of, typed_mentions, mentions_at, mentions_in_state}
use Rattle.check_sound.specs.Sound.{foreseen, IsSound, IsReady, HasBodyOf}
use Rattle.check_sound.proofs.Tests.{none-some, same-some, no}
use Rattle.check_sound.proofs.Knowing.{typed-callable, knows-from, called-as}
use Rattle.check_sound.proofs.Foreseen.{body-item, count-trees}
use Rattle.check_sound.proofs.Naming.{Names}
use Rattle.check_sound.proofs.Growing.{body-stays}
use Rattle.check_sound.proofs.Grows.{Grows, keeps-types-of, item-same}
use Rattle.check_sound.proofs.Worlds.{fair-of}
use Rattle.check_sound.proofs.Mentioned.{in-body}

-- ---- queues

by-or : (c x y z : Bool) → (x ≡ true → y ≡ true) → (c || x) ≡ true → (c || y) ≡ true
by-or true x y z f h = refl
by-or false x y z f h = f h

pub reached-more : (g : FnId) (queue more : List Reached) → was_reached g queue ≡ true →
    was_reached g (queue ++ more) ≡ true
reached-more g [] more h = absurd (no h)
reached-more g (r ∷ rs) more h =
    by-or (g.0 == r.function.0) (was_reached g rs) (was_reached g (rs ++ more)) true (λ e. reached-more g rs more e) h

pub reached-last : (g : FnId) (queue : List Reached) (r : Reached) → g.0 ≡ r.function.0 →
    was_reached g (queue ++ r ∷ []) ≡ true
reached-last g [] r e = or_left _ _ (eq-eqb g.0 r.function.0 e)
reached-last g (x ∷ queue) r e = or_right (g.0 == x.function.0) _ (reached-last g queue r e)

-- where a function stands in a queue
pub record Stands (g : FnId) (queue : List Reached) : Type 0 where
  pub place : ℕ
  pub reached : Reached
  pub at : slice_get queue place ≡ Some reached
  pub is : g ≡ reached.function

pub stands : (g : FnId) (queue : List Reached) → was_reached g queue ≡ true → Stands g queue
stands g [] h = absurd (no h)
stands g (r ∷ rs) h = by (λ e. stands g rs e) (or_cases (g.0 == r.function.0) (was_reached g rs) h)
  where
    by : (was_reached g rs ≡ true → Stands g rs) → ((g.0 == r.function.0) ≡ true) ⊎ (was_reached g rs ≡ true) →
        Stands g (r ∷ rs)
    by behind (inl e) = record {
      place = zero;
      reached = r;
      at = refl;
      is = ap (λ n. record { 0 = n })
          (eqb-true g.0 r.function.0 e);
    }
    by behind (inr e) = let s = behind e in record { place = suc s.place; reached = s.reached; at = s.at; is = s.is }

pub reached-at : (queue : List Reached) (i : ℕ) (r : Reached) → slice_get queue i ≡ Some r →
    was_reached r.function queue ≡ true
reached-at [] i r h = absurd (none-some r h)
reached-at (x ∷ xs) zero r h = or_left _ _ (eq-eqb r.function.0 x.function.0
    (ap (λ (y : Reached). y.function.0) (sym (same-some x r h))))
reached-at (x ∷ xs) (suc i) r h = or_right (r.function.0 == x.function.0) _ (reached-at xs i r h)

-- a queue with what a function mentions
pub record Extends (queue : List Reached) (ms : List (Place × FnId)) (next : List Reached) : Type 0 where
  pub more : List Reached
  pub is : next ≡ queue ++ more
  pub all : (i : ℕ) (m : Place × FnId) → slice_get ms i ≡ Some m → was_reached m.1 next ≡ true
  pub new : (j : ℕ) (r : Reached) → slice_get more j ≡ Some r →
      (i : ℕ) × ((m : Place × FnId) × ((slice_get ms i ≡ Some m) × (r.function ≡ m.1)))

extends-known : (queue next : List Reached) (m : Place × FnId) (ms : List (Place × FnId)) →
    was_reached m.1 queue ≡ true → Extends queue ms next →
    Extends queue (m ∷ ms) next
extends-known queue next m ms h x = record {
  more = x.more;
  is = x.is;
  all = all;
  new = λ j r at. let n =
      x.new j r at in (suc n.0, n.1);
}
  where
    all : (i : ℕ) (z : Place × FnId) → slice_get (m ∷ ms) i ≡ Some z → was_reached z.1 next ≡ true
    all zero z at =
        subst (λ u. was_reached u.1 next ≡ true) (same-some m z at)
        (subst (λ l. was_reached m.1 l ≡ true) (sym x.is) (reached-more m.1 queue x.more h))
    all (suc i) z at = x.all i z at

extends-new : (queue next : List Reached) (m : Place × FnId) (ms : List (Place × FnId)) (entry : Reached) →
    entry.function ≡ m.1 →
    Extends (queue ++ entry ∷ []) ms next → Extends queue (m ∷ ms) next
extends-new queue next m ms entry e x =
    record { more = entry ∷ x.more; is = x.is ∙ append_assoc queue (entry ∷ []) x.more; all = all; new = new }
  where
    all : (i : ℕ) (z : Place × FnId) → slice_get (m ∷ ms) i ≡ Some z → was_reached z.1 next ≡ true
    all zero z at =
        subst (λ u. was_reached u.1 next ≡ true) (same-some m z at)
        (subst (λ l. was_reached m.1 l ≡ true) (sym x.is)
        (reached-more m.1 (queue ++ entry ∷ []) x.more (reached-last m.1 queue entry (ap (λ (u : FnId). u.0) (sym e)))))
    all (suc i) z at = x.all i z at

    new : (j : ℕ) (r : Reached) → slice_get (entry ∷ x.more) j ≡ Some r →
        (i : ℕ) × ((z : Place × FnId) × ((slice_get (m ∷ ms) i ≡ Some z) × (r.function ≡ z.1)))
    new zero r at = (zero, (m, (refl, ap (λ (u : Reached). u.function) (sym (same-some entry r at)) ∙ e)))
    new (suc j) r at = let n = x.new j r at in (suc n.0, n.1)

pub extends : (queue : List Reached) (by : FnId) (ms : List (Place × FnId)) →
    Extends queue ms (with_mentions queue by ms)
extends queue by [] = record {
  more = [];
  is = sym (append-nil queue);
  all = λ i m h. absurd (none-some m h);
  new =
      λ j r h. absurd (none-some r h);
}
extends queue by (m ∷ ms) =
    choose (was_reached m.1 queue) refl (extends queue by ms)
    (extends (queue ++ record { function = m.1; by = Some (m.0, by) } ∷ []) by ms)
  where
    choose : (c : Bool) → was_reached m.1 queue ≡ c → Extends queue ms (with_mentions queue by ms) →
        Extends (queue ++ record { function = m.1; by = Some (m.0, by) } ∷ []) ms
        (with_mentions (queue ++ record { function = m.1; by = Some (m.0, by) } ∷ []) by ms) →
        Extends queue (m ∷ ms) (if c then with_mentions queue by ms else with_mentions
        (queue ++ record { function = m.1; by = Some (m.0, by) } ∷ []) by ms)
    choose true e x y = extends-known queue (with_mentions queue by ms) m ms e x
    choose false e x y =
        extends-new queue (with_mentions (queue ++ record { function = m.1; by = Some (m.0, by) } ∷ []) by ms) m ms
        (record { function = m.1; by = Some (m.0, by) }) refl y

-- ---- typed functions, and what they mention

pub record TypedAs (w : StageState) (f : FnId) (made : TermId) : Type 0 where
  pub function : Function
  pub term : TermId
  pub at : function_at w f ≡ Some function
  pub is : function.state ≡ standing.Typed term made

pub typed-as : (w : StageState) (f : FnId) (made : TermId) → typed_in (state_of w.store f) ≡ Some made →
    TypedAs w f made
typed-as w f made h = by (function_at w f) refl h
  where
    by-state : (x : Function) (s : FunctionState) → function_at w f ≡ Some x → x.state ≡ s → typed_in s ≡ Some made →
        TypedAs w f made
    by-state x (standing.Typed t m) at is h = record {
      function = x;
      term = t;
      at = at;
      is = is ∙
          ap (standing.Typed t) (same-some m made h);
    }
    by-state x standing.Undefined at is h = absurd (none-some made h)
    by-state x (standing.Defined t) at is h = absurd (none-some made h)
    by-state x (standing.Typing t) at is h = absurd (none-some made h)
    by-state x (standing.Refused t why) at is h = absurd (none-some made h)

    by : (o : Option Function) → function_at w f ≡ o → typed_in
        (option_map_or (λ (x : Function). x.state) o standing.Undefined) ≡ Some made → TypedAs w f made
    by None at h = absurd (none-some made h)
    by (Some x) at h = by-state x x.state at refl h

mentions-are : (w : StageState) (f : FnId) (made : TermId) → TypedAs w f made → mentions_at w f ≡ mentions_of
    (slice_get (typed_trees w.store.typed) made.0)
mentions-are w f made a = ap (mentions_in_state w) a.at ∙ ap (typed_mentions w) a.is

-- a mention names its function
names-at : (events : List Event) (i : ℕ) (m : Place × FnId) → slice_get (mentions_in events) i ≡ Some m →
    Names m.1 events
names-at [] i m h = absurd (none-some m h)
names-at (Opens ∷ es) i m h = names-at es i m h
names-at (Closes ∷ es) i m h = names-at es i m h
names-at (Declares x t ∷ es) i m h = names-at es i m h
names-at (Takes x ∷ es) i m h = names-at es i m h
names-at (Uses at x t ∷ es) i m h = names-at es i m h
names-at (Mentions at f ∷ es) zero m h = inl (ap (λ (z : Place × FnId). z.1) (sym (same-some (at, f) m h)))
names-at (Mentions at f ∷ es) (suc i) m h = inr (names-at es i m h)

pub mention-of : (f : FnId) (events : List Event) → Names f events →
    (i : ℕ) × ((m : Place × FnId) × ((slice_get (mentions_in events) i ≡ Some m) × (m.1 ≡ f)))
mention-of f [] h = absurd h
mention-of f (Opens ∷ es) h = mention-of f es h
mention-of f (Closes ∷ es) h = mention-of f es h
mention-of f (Declares x t ∷ es) h = mention-of f es h
mention-of f (Takes x ∷ es) h = mention-of f es h
mention-of f (Uses at x t ∷ es) h = mention-of f es h
mention-of f (Mentions at g ∷ es) (inl e) = (zero, ((at, g), (refl, sym e)))
mention-of f (Mentions at g ∷ es) (inr h) = let n = mention-of f es h in (suc n.0, n.1)

module _ (w : StageState) (sound : IsSound w) where
  body-of : (f : FnId) (made : TermId) → (a : TypedAs w f made) → HasBodyOf w a.term made
  body-of f made a = sound.typed_bodies f a.term made a.function a.at a.is

  mentions-in : (f : FnId) (made : TermId) → (a : TypedAs w f made) → mentions_at w f ≡ mentions_in
      (body_events (body-of f made a).body)
  mentions-in f made a = mentions-are w f made a ∙ ap mentions_of
      (body-item w made (body-of f made a).body (body-of f made a).there)

  -- of what a typed function mentions the parameters are known
  pub mention-known : (f : FnId) (made : TermId) → TypedAs w f made → (i : ℕ) (m : Place × FnId) →
      slice_get (mentions_at w f) i ≡ Some m →
      (ps : List TypeId) × (parameters_of w m.1 ≡ Some ps)
  mention-known f made a i m h =
      let has = body-of f made a in
      let names = names-at (body_events has.body) i m (ap (λ l. slice_get l i) (sym (mentions-in f made a)) ∙ h) in
      let some = in-body (foreseen w) m.1 has.body (sound.bodies f a.term made has.body a.function a.at a.is has.there)
      names in
      (some.0, (knows-from w sound.typed_bodies m.1 some.0 some.1.0 some.1.1).0)

-- mentions stay
pub mentions-stay : (w v : StageState) → IsSound w → IsSound v → Grows w v → (f : FnId) (made : TermId) →
    typed_in (state_of w.store f) ≡ Some made →
    mentions_at v f ≡ mentions_at w f
mentions-stay w v a b g f made h =
    let old = typed-as w f made h in
    let new = typed-as v f made ((g.functions f).typed made h) in
    let within = slice_get_within (typed_trees w.store.typed) made.0 _
    (body-item w made (body-of w a f made old).body (body-of w a f made old).there) in
    mentions-are v f made new ∙
    (ap mentions_of (item-same w.store.typed v.store.typed g.typed_nodes made
    (omega (arith, within, count-trees w.store.typed))) ∙
    sym (mentions-are w f made old))

-- ---- what is visited

-- a function that is typed, and what it mentions is in the queue
pub record Visited (w : StageState) (queue : List Reached) (f : FnId) : Type 0 where
  pub made : TermId
  pub is : typed_in (state_of w.store f) ≡ Some made
  pub mentions : (i : ℕ) (m : Place × FnId) → slice_get (mentions_at w f) i ≡ Some m → was_reached m.1 queue ≡ true

pub visited-grows : (w v : StageState) → IsSound w → IsSound v → Grows w v → (queue : List Reached) (f : FnId) →
    Visited w queue f → Visited v queue f
visited-grows w v a b g queue f h = record {
  made = h.made;
  is = (g.functions f).typed h.made h.is;
  mentions = λ i m at. h.mentions i m (ap (λ l. slice_get l i) (sym (mentions-stay w v a b g f h.made h.is)) ∙ at);
}

pub visited-more : (w : StageState) (queue more : List Reached) (f : FnId) → Visited w queue f →
    Visited w (queue ++ more) f
visited-more w queue more f h = record {
  made = h.made;
  is = h.is;
  mentions = λ i m at. reached-more m.1 queue more
      (h.mentions i m at);
}

module _ (w : StageState) (sound : IsSound w) (queue : List Reached)
    (all : (g : FnId) → was_reached g queue ≡ true → Visited w queue g) where
  -- what is in the queue is called as it is foreseen
  same-callable : (g : FnId) → was_reached g queue ≡ true → callable_of (contents_of w.store) g ≡ callable_of
      (foreseen w) g
  same-callable g h =
      let v = all g h in
      let a = typed-as w g v.made v.is in
      let has = body-of w sound g v.made a in
      called-as (contents_of w.store) g a.function v.made has.body a.at (ap typed_in a.is)
      (body-item w v.made has.body has.there) ∙
      sym (typed-callable w g a.function a.term v.made has.body a.at a.is has.there)

  pub ready : (g : FnId) → was_reached g queue ≡ true → IsReady w queue g
  ready g h =
      let v = all g h in
      let a = typed-as w g v.made v.is in
      let has = body-of w sound g v.made a in
      let k : Callable = record { at = a.function.place; body = has.body } in
      let passes : body_typed (contents_of w.store) has.body ≡ true =
      body-stays (foreseen w) (contents_of w.store) (keeps-types-of w) sound.types sound.types
      (fair-of w sound).lies has.body
      (λ x names ps r p.
      let m = mention-of x (body_events has.body) names in
      let in_queue : was_reached x queue ≡ true =
      subst (λ z. was_reached z queue ≡ true) m.1.1.1
      (v.mentions m.0 m.1.0 (ap (λ l. slice_get l m.0) (mentions-in w sound g v.made a) ∙ m.1.1.0)) in
      ap (has_type ps r) (same-callable x in_queue) ∙ p)
      (sound.bodies g a.term v.made has.body a.function a.at a.is has.there) in
      record {
        callable = (
          k,
          called-as (contents_of w.store) g a.function v.made has.body a.at (ap typed_in a.is)
              (body-item w v.made has.body has.there),
          passes,
        );
        reached = v.mentions;
      }
