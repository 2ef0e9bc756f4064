-- The store of what exports reach.
use Rattle.std.proofs.Common.{◌≡◌, ℕ, ◌≤◌, zero, suc, true, List, [], ◌∷◌, ◌++◌, Option, Some, None, refl, sym, ap, ◌∙◌, subst, slice_get}
use Rattle.std.specs.Prelude.{◌⊎◌, ◌||◌, ◌==◌}
use mathlib.Core.Logic.{inl, inr}
use Rattle.std.proofs.lemmas.Bool.{or_cases, or_right, or_left}
use Rattle.tl_base.specs.declared.ids.FnId.{FnId}
use Rattle.tl_base.specs.declared.ids.TermId.{TermId}
use Rattle.terra_term.specs.declared.store.Export.{Export}
use Rattle.terra_term.specs.declared.store.Function.{Function}
use Rattle.terra_term.specs.declared.store.FunctionState.{FunctionState}
use Rattle.terra_term.specs.declared.store.FunctionState.TheVariants as standing
use Rattle.terra_term.specs.Sizes.{body_size}
use Rattle.terra_term.specs.TypedTerms as typed
use Rattle.terra_term.specs.Planted.{typed_trees}
use Rattle.terra_term.specs.Stores.{Callable, callable_of, contents_of}
use Rattle.terra_term.specs.WellTyped.{is_placed}
use Rattle.terra_meaning.specs.Laws.{Reaches, itself, value, mentioned}
use Rattle.exotype.specs.World.{StageState}
use Rattle.check_model.specs.declared.job.Reached.{Reached}
use Rattle.check_model.specs.Checks.{was_reached}
use Rattle.check_model.specs.Typing.{function_at}
use Rattle.check_model.specs.Bodies.{most_nodes}
use Rattle.check_sound.specs.Sound.{IsSound, IsReady, body_in}
use Rattle.check_sound.specs.Layers.{ReachesReady}
use Rattle.check_sound.specs.Reached.{only_reached}
use Rattle.check_sound.proofs.Tests.{none-some, same-some, no}
use Rattle.check_sound.proofs.Reaching.{reached-more}
use Rattle.check_sound.proofs.Restricting.{mentions-called, reached-typed}
use Rattle.stage_sound.specs.Parts.{IsCalled}
use Rattle.stage_sound.proofs.Outcomes.{HaveParts}

abbrev Facts : Callable → Type 0
Facts k = (is_placed k.at ≡ true) × ((body_size k.body).nodes ≤ most_nodes)

-- ---- queues behind one another

reached-behind : (g : FnId) (front queue : List Reached) → was_reached g queue ≡ true → was_reached g (front ++ queue) ≡ true
reached-behind g [] queue h = h
reached-behind g (r ∷ front) queue h = or_right (g.0 == r.function.0) _ (reached-behind g front queue h)

reached-either : (g : FnId) (front queue : List Reached) → was_reached g (front ++ queue) ≡ true →
    (was_reached g front ≡ true) ⊎ (was_reached g queue ≡ true)
reached-either g [] queue h = inr h
reached-either g (r ∷ front) queue h =
    by (λ k. reached-either g front queue k) (or_cases (g.0 == r.function.0) (was_reached g (front ++ queue)) h)
  where
    on : (was_reached g front ≡ true) ⊎ (was_reached g queue ≡ true) →
        (((g.0 == r.function.0) || was_reached g front) ≡ true) ⊎ (was_reached g queue ≡ true)
    on (inl k) = inl (or_right (g.0 == r.function.0) (was_reached g front) k)
    on (inr k) = inr k

    by : (was_reached g (front ++ queue) ≡ true → (was_reached g front ≡ true) ⊎ (was_reached g queue ≡ true)) →
        ((g.0 == r.function.0) ≡ true) ⊎ (was_reached g (front ++ queue) ≡ true) →
        (((g.0 == r.function.0) || was_reached g front) ≡ true) ⊎ (was_reached g queue ≡ true)
    by rest (inl e) = inl (or_left (g.0 == r.function.0) (was_reached g front) e)
    by rest (inr k) = on (rest k)

module _ (w : StageState) where
  -- what is ready among some is ready among more
  ready-front : (queue more : List Reached) (g : FnId) → IsReady w queue g → IsReady w (queue ++ more) g
  ready-front queue more g r = record {
    callable = r.callable;
    reached = λ i m at. reached-more m.1 queue more (r.reached i m at);
  }

  ready-behind : (front queue : List Reached) (g : FnId) → IsReady w queue g → IsReady w (front ++ queue) g
  ready-behind front queue g r = record {
    callable = r.callable;
    reached = λ i m at. reached-behind m.1 front queue (r.reached i m at);
  }

  -- one queue for all exports
  record Queue (exports : List Export) : Type 0 where
    queue : List Reached
    exported : (i : ℕ) (e : Export) → slice_get exports i ≡ Some e → was_reached e.function queue ≡ true
    ready : (g : FnId) → was_reached g queue ≡ true → IsReady w queue g

  queue-for : (exports : List Export) → ((i : ℕ) (e : Export) → slice_get exports i ≡ Some e → ReachesReady w e.function) →
      Queue exports
  queue-for [] each = record {
    queue = [];
    exported = λ i e at. absurd (none-some e at);
    ready = λ g h. absurd (no h);
  }
  queue-for (x ∷ exports) each =
      let mine = each zero x refl in
      let rest = queue-for exports (λ i e at. each (suc i) e at) in
      joined mine.0 mine.1 mine.2 rest.queue rest.exported rest.ready
    where
      joined : (front : List Reached) → was_reached x.function front ≡ true →
          ((g : FnId) → was_reached g front ≡ true → IsReady w front g) →
          (queue : List Reached) →
          ((i : ℕ) (e : Export) → slice_get exports i ≡ Some e → was_reached e.function queue ≡ true) →
          ((g : FnId) → was_reached g queue ≡ true → IsReady w queue g) → Queue (x ∷ exports)
      joined front first ready_first queue others ready_others = record {
        queue = front ++ queue;
        exported = λ i e at. exported i e at;
        ready = λ g h. by g (reached-either g front queue h);
      }
        where
          exported : (i : ℕ) (e : Export) → slice_get (x ∷ exports) i ≡ Some e → was_reached e.function (front ++ queue) ≡ true
          exported zero e at =
              subst (λ (y : Export). was_reached y.function (front ++ queue) ≡ true) (same-some x e at)
              (reached-more x.function front queue first)
          exported (suc i) e at = reached-behind e.function front queue (others i e at)

          by : (g : FnId) → (was_reached g front ≡ true) ⊎ (was_reached g queue ≡ true) → IsReady w (front ++ queue) g
          by g (inl h) = ready-front front queue g (ready_first g h)
          by g (inr h) = ready-behind front queue g (ready_others g h)

  -- ---- what is reached

  module _ (queue : List Reached) (all : (g : FnId) → was_reached g queue ≡ true → IsReady w queue g) (f : FnId)
      (start : was_reached f queue ≡ true) where
    reaches-in : (g : FnId) → Reaches (contents_of w.store) [] f g → was_reached g queue ≡ true
    reaches-in g itself = start
    reaches-in g (value i h at) = absurd (none-some g at)
    reaches-in g (mentioned h g2 i at k r called m) =
        (all h (reaches-in h r)).reached i (at, g)
        (ap (λ l. slice_get l i) (mentions-called w queue h k called (function_at w h) refl) ∙ m)

  -- a function that can be called has the place of the function, and its body no more nodes than it may have
  called-facts : (sound : IsSound w) (f : FnId) (k : Callable) → callable_of (contents_of w.store) f ≡ Some k →
      (o : Option Function) → function_at w f ≡ o → Facts k
  called-facts sound f k called None at =
      let none : callable_of (contents_of w.store) f ≡ None = rw at refl in absurd (none-some k (sym none ∙ called))
  called-facts sound f k called (Some g) at = by g.state refl
    where
      uncalled : callable_of (contents_of w.store) f ≡ None → Facts k
      uncalled none = absurd (none-some k (sym none ∙ called))

      of-item : (t made : TermId) → g.state ≡ standing.Typed t made → (i : Option typed.Item) →
          slice_get (typed_trees w.store.typed) made.0 ≡ i → Facts k
      of-item t made is (Some (typed.body b)) item =
          let c : Callable = record { at = g.place; body = b } in
          let same : callable_of (contents_of w.store) f ≡ Some c = rw (at, is, item) refl in
          let has = sound.typed_bodies f t made g at is in
          let own : has.body ≡ b = same-some has.body b (sym has.there ∙ ap body_in item) in
          subst Facts (same-some c k (sym same ∙ called))
          ((sound.functions f g at).0, subst (λ (z : typed.Body). (body_size z).nodes ≤ most_nodes) own has.small)
      of-item t made is (Some (typed.expression x)) item = uncalled (rw (at, is, item) refl)
      of-item t made is (Some (typed.doing x)) item = uncalled (rw (at, is, item) refl)
      of-item t made is None item = uncalled (rw (at, is, item) refl)

      by : (s : FunctionState) → g.state ≡ s → Facts k
      by (standing.Typed t made) is = of-item t made is (slice_get (typed_trees w.store.typed) made.0) refl
      by standing.Undefined is = uncalled (rw (at, is) refl)
      by (standing.Defined t) is = uncalled (rw (at, is) refl)
      by (standing.Typing t) is = uncalled (rw (at, is) refl)
      by (standing.Refused t why) is = uncalled (rw (at, is) refl)

  ready-called : IsSound w → (queue : List Reached) (f : FnId) → IsReady w queue f → IsCalled (contents_of w.store) f
  ready-called sound queue f r = record {
    term = r.callable.0;
    is = r.callable.1;
    passes = r.callable.2;
    place = (called-facts sound f r.callable.0 r.callable.1 (function_at w f) refl).0;
    few = (called-facts sound f r.callable.0 r.callable.1 (function_at w f) refl).1;
  }

pub have-parts : HaveParts
have-parts w exports sound each =
    let q = queue-for w exports each in
    let in_queue = λ (i : ℕ) (e : Export) (f : FnId) (at : slice_get exports i ≡ Some e)
    (r : Reaches (contents_of w.store) [] e.function f).
    reaches-in w q.queue q.ready e.function (q.exported i e at) f r in
    let t = reached-typed w q.queue sound q.ready in
    record {
      called = λ i e f at r. ready-called w sound q.queue f (q.ready f (in_queue i e f at r));
      part = only_reached q.queue (contents_of w.store);
      types = refl;
      statics = refl;
      same = λ i e f at r. t.0 f (in_queue i e f at r);
      typed = λ f k called. t.1 f k called;
    }
