-- Whole runs aren't stuck, by induction on how deep calls may go.
use Rattle.std.proofs.Common.{◌≡◌, ℕ, zero, suc, ◌+◌, Bool, true, false, List, [], length, Some, refl, sym, ap, ◌∙◌, subst}
use Rattle.std.specs.Prelude.{◌-◌, nat_eq, nat_le, nat_lt}
use Rattle.std.proofs.lemmas.Bool.{and_parts}
use Rattle.tl_base.specs.declared.place.Place.{Place}
use Rattle.tl_base.specs.declared.ids.FnId.{FnId}
use Rattle.terra_memory.specs.Region.{end_address, fresh, heap_limit}
use Rattle.terra_words.specs.Words.{most_calls}
use Rattle.terra_words.specs.Runs.{Value, word, Run, End, Returned, Fault, Stuck, Over, More}
use Rattle.terra_types.specs.Opening.{unit}
use Rattle.terra_term.specs.declared.lists.TypedName.{TypedName}
use Rattle.terra_term.specs.Stores.{Contents, Callable, callable_of, static_bytes}
use Rattle.terra_term.specs.WellTyped as typing
use Rattle.terra_term.specs.WellTyped.{Within, all_typed, after_all, body_typed, with_names}
use Rattle.terra_meaning.specs.Frames.{frame_of}
use Rattle.terra_meaning.specs.Laws.{shape, Has}
use Rattle.terra_meaning.specs.Running as running
use Rattle.terra_meaning.specs.Running.{State, Got, Gives, Ends, next, counted_from, counted}
use Rattle.terra_meaning.specs.Meaning.{Call, Calls, Way, goes_on, breaks, gives_back, declared_all, done_all, given_back, body_run, kept}
use Rattle.terra_meaning.specs.Meaning.{entered, apply, run_of, place_in, meaning}
use Rattle.tac_lower.specs.Laws.{AreTyped}
use Rattle.tac_lower.proofs.Typing.{no}
use Rattle.terra_sound.specs.Laws.{TypedRunsAreNotStuck}
use Rattle.terra_sound.proofs.Covering.{is_fault, Covers, Sound, Leaves, Acts, sound-if}
use Rattle.terra_sound.proofs.Leaves.{CallsSound, leaves-declared-all}
use Rattle.terra_sound.proofs.Sound.{sound-block}

abbrev pub is_stuck : Run → Bool
is_stuck (Over Stuck out) = true
is_stuck _ = false

module _ (store : Contents) (entries : List FnId) (typed : AreTyped store) where
  -- a call leaves its caller's variables

  keeps-kept : (s : State) (x : Got Value) → Has (shape s.variables) (kept s.variables x)
  keeps-kept s (Gives v t) = refl
  keeps-kept s (Ends r) = tt

  sound-kept : (variables : List running.Variable) (x : Got Value) → Sound x → Sound (kept variables x)
  sound-kept variables (Gives v t) h = tt
  sound-kept variables (Ends r) h = h

  keeps-counted : (n : ℕ) (s : State) (go : State → Got Value) → ((u : State) → Has (shape s.variables) (go u)) →
      Has (shape s.variables) (counted_from n s go)
  keeps-counted zero s go h = tt
  keeps-counted (suc n) s go h = h (record s { left = n })

  sound-counted : (n : ℕ) (s : State) (go : State → Got Value) → ((u : State) → Sound (go u)) → Sound (counted_from n s go)
  sound-counted zero s go h = refl
  sound-counted (suc n) s go h = h (record s { left = n })

  -- a body

  sound-given : (k : Callable) (way : Way) (s : State) → Sound (given_back k way s)
  sound-given k (gives_back v) s = tt
  sound-given k goes_on s = sound-if (nat_eq k.body.result.0 unit.0) (Gives (word 0) s) (Ends _) tt refl
  sound-given k breaks s = sound-if (nat_eq k.body.result.0 unit.0) (Gives (word 0) s) (Ends _) tt refl

  acts-then : (w : Within) (names : List TypedName) (k : Callable) (x : Got Way) → Acts w names x → Sound (next x (given_back k))
  acts-then w names k (Gives way t) h = sound-given k way t
  acts-then w names k (Ends r) h = h

  leaves-then : {A B : Type 0} (names : List TypedName) (x : Got A) (go : A → State → Got B) → Leaves names x →
      ((a : A) (t : State) → Covers names (shape t.variables) → Sound (go a t)) → Sound (next x go)
  leaves-then names (Gives a t) go h k = k a t h
  leaves-then names (Ends r) go h k = h

  sound-body : (c : Call) → CallsSound c → (k : Callable) → body_typed c.store k.body ≡ true → (vs : List Value) (s : State) →
      Sound (body_run c k vs s)
  sound-body c h k t vs s =
      let p = and_parts (typing.names_laid_out c.store k.body.parameters)
      (all_typed c.store (record { result = k.body.result; in_loop = false; in_let = false }) (with_names k.body.parameters []) k.body.body)
      t in
      leaves-then (with_names k.body.parameters []) (declared_all c k.at k.body.parameters vs 0 (record s { variables = [] }))
      (λ _ s'. next (done_all c k.body.body (length k.body.parameters) s') (given_back k))
      (leaves-declared-all c k.at k.body.parameters vs 0 [] (record s { variables = [] }) tt)
      (λ _ s' v'. acts-then (record { result = k.body.result; in_loop = false; in_let = false })
      (after_all k.body.body (with_names k.body.parameters [])) k (done_all c k.body.body (length k.body.parameters) s')
      (sound-block c h (record { result = k.body.result; in_loop = false; in_let = false }) (with_names k.body.parameters []) k.body.body
      (length k.body.parameters) p.1 s' v'))

  -- what a call is below a function with so many callers
  abbrev below : (m depth : ℕ) → Calls
  below m depth base g vs place s = counted s (λ s1. kept s.variables (apply store entries m (suc depth) base g vs place s1))

  abbrev pub Applies : ℕ → Type 0
  Applies n = (depth top : ℕ) (f : FnId) (k : Callable) (vs : List Value) (at : Place) (s : State) → callable_of store f ≡ Some k →
      Sound (apply store entries n depth top f vs at s)

  -- a call of a function whose frame ends at an address, below so many callers
  abbrev call_of : (m depth top : ℕ) → Callable → Call
  call_of m depth top k = record {
    store = store;
    entries = entries;
    call = below m depth (top - (frame_of store.types k.body).size);
    base = top - (frame_of store.types k.body).size;
    homes = (frame_of store.types k.body).homes;
    turns = suc m;
  }

  calls-sound : (m : ℕ) → Applies m → (depth top : ℕ) (k : Callable) → CallsSound (call_of m depth top k)
  calls-sound m more depth top k = record {
    keep = λ g xs place t. keeps-counted t.left t
        (λ s1. kept t.variables (apply store entries m (suc depth) (top - (frame_of store.types k.body).size) g xs place s1))
        (λ u. keeps-kept t (apply store entries m (suc depth) (top - (frame_of store.types k.body).size) g xs place u));
    sound = λ g j xs place t e. sound-counted t.left t
        (λ s1. kept t.variables (apply store entries m (suc depth) (top - (frame_of store.types k.body).size) g xs place s1))
        (λ u. sound-kept t.variables (apply store entries m (suc depth) (top - (frame_of store.types k.body).size) g xs place u)
        (more (suc depth) (top - (frame_of store.types k.body).size) g j xs place u e));
  }

  sound-entered : (m : ℕ) → Applies m → (depth top : ℕ) (at : Place) (f : FnId) (k : Callable) (vs : List Value) (s : State) →
      callable_of store f ≡ Some k → Sound (entered store entries (below m depth) (suc m) depth top at (Some k) vs s)
  sound-entered m more depth top at f k vs s there =
      sound-if (nat_le most_calls depth) (Ends _) _ refl
      (sound-if (nat_lt top (heap_limit s.region + (frame_of store.types k.body).size)) (Ends _)
      (body_run (call_of m depth top k) k vs s) refl
      (sound-body (call_of m depth top k) (calls-sound m more depth top k) k (typed f k there) vs s))

  pub sound-apply : (n : ℕ) → Applies n
  sound-apply zero depth top f k vs at s there = refl
  sound-apply (suc m) depth top f k vs at s there =
      subst (λ o. Sound (entered store entries (below m depth) (suc m) depth top at o vs s)) (sym there)
      (sound-entered m (sound-apply m) depth top at f k vs s there)

  by-end : (e : End) (out : List ℕ) → is_fault e ≡ true → is_stuck (Over e out) ≡ false
  by-end (Returned v) out h = refl
  by-end (Fault kind at) out h = refl
  by-end Stuck out h = absurd (no h)

  over : (x : Got Value) → Sound x → is_stuck (run_of x) ≡ false
  over (Gives v s) h = refl
  over (Ends (Over e out)) h = by-end e out h
  over (Ends (More out)) h = refl

  pub not-stuck : (memory n : ℕ) (f : FnId) (k : Callable) (arguments : List Value) → callable_of store f ≡ Some k →
      is_stuck (meaning store entries memory n f arguments) ≡ false
  not-stuck memory n f k arguments there =
      let region = fresh memory (static_bytes store) in
      let s : State = record { variables = []; region = region; left = n; out = [] } in
      over (apply store entries (suc n) 0 (end_address region) f arguments (place_in (callable_of store f)) s)
      (sound-apply (suc n) 0 (end_address region) f k arguments (place_in (callable_of store f)) s there)

pub never-stuck : TypedRunsAreNotStuck
never-stuck store entries memory n f k arguments out typed there is =
    no (sym (not-stuck store entries typed memory n f k arguments there) ∙ ap is_stuck is)
