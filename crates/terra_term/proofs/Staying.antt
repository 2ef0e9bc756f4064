-- Each call keeps what a function has, and a new node changes no tree.
use Rattle.std.proofs.Common.{◌≡◌, refl, ℕ, zero, suc, List, [], ◌∷◌, ◌++◌, ap, sym, subst, Option, Some, None, slice_get, inl, inr}
use Rattle.std.specs.Prelude.{slice_set}
use Rattle.std.specs.Option.{option_map_or}
use Rattle.std.proofs.lemmas.Bool.{cases_eq}
use Rattle.tl_base.specs.declared.place.Place.{Place}
use Rattle.tl_base.specs.declared.ids.FnId.{FnId}
use Rattle.tl_base.specs.declared.ids.TermId.{TermId}
use Rattle.tl_base.specs.declared.ids.TypeId.{TypeId}
use Rattle.terra_types.proofs.Growing.{grown-more}
use Rattle.terra_term.specs.declared.refusal.Refusal.{Refusal}
use Rattle.terra_term.specs.declared.refusal.RefusalKind.{RefusalKind}
use Rattle.terra_term.specs.declared.refusal.RefusalKind.TheVariants as kinds
use Rattle.terra_term.specs.declared.store.Function.{Function}
use Rattle.terra_term.specs.declared.store.FunctionState.{FunctionState}
use Rattle.terra_term.specs.declared.store.FunctionState.TheVariants as states
use Rattle.terra_term.specs.declared.term.Term as nodes
use Rattle.terra_term.specs.declared.typed.Typed as typed_nodes
use Rattle.terra_term.specs.Planted.{planted, trees, typed_planted, typed_trees}
use Rattle.terra_term.specs.Held.{Held, state_of, begun, finished, refused, kept_refusal, with_state, state_changed, with_defined, defined}
use Rattle.terra_term.specs.Held.{with_function}
use Rattle.terra_term.specs.Keeping.{Stays, AllStay, AreKept}

pub stays-same : (s : FunctionState) → Stays s s
stays-same s = record { term = λ t h. h; typed = λ made h. h; refusal = λ why h. h }

pub stays-then : (a b c : FunctionState) → Stays a b → Stays b c → Stays a c
stays-then a b c f g = record {
  term = λ t h. g.term t (f.term t h);
  typed = λ t h. g.typed t (f.typed t h);
  refusal = λ w h. g.refusal w (f.refusal w h);
}

pub stays-begun : (s : FunctionState) → Stays s (begun s)
stays-begun states.Undefined = record { term = λ t h. h; typed = λ made h. h; refusal = λ why h. h }
stays-begun (states.Defined t) = record { term = λ t' h. h; typed = λ made h. h; refusal = λ why h. h }
stays-begun (states.Typing t) = record { term = λ t' h. h; typed = λ made h. h; refusal = λ why h. h }
stays-begun (states.Typed t made) = record { term = λ t' h. h; typed = λ made' h. h; refusal = λ why h. h }
stays-begun (states.Refused t why) = record { term = λ t' h. h; typed = λ made h. h; refusal = λ why' h. h }

pub stays-finished : (s : FunctionState) (m : TermId) → Stays s (finished s m)
stays-finished states.Undefined m = record { term = λ t h. h; typed = λ made h. h; refusal = λ why h. h }
stays-finished (states.Defined t) m = record { term = λ t' h. h; typed = λ made h. h; refusal = λ why h. h }
stays-finished (states.Typing t) m = record { term = λ t' h. h; typed = λ made h. absurd (cc); refusal = λ why h. h }
stays-finished (states.Typed t made) m = record { term = λ t' h. h; typed = λ made' h. h; refusal = λ why h. h }
stays-finished (states.Refused t why) m = record { term = λ t' h. h; typed = λ made h. h; refusal = λ why' h. h }

stays-kept : (kind : RefusalKind) (t : TermId) (w : Refusal) → Stays (states.Typing t) (kept_refusal kind t w)
stays-kept kinds.Undefined t w = record { term = λ t' h. h; typed = λ made h. h; refusal = λ why h. h }
stays-kept _ t w = record { term = λ t' h. h; typed = λ made h. h; refusal = λ why h. absurd (cc) }

pub stays-refused : (s : FunctionState) (w : Refusal) → Stays s (refused s w)
stays-refused states.Undefined w = record { term = λ t h. h; typed = λ made h. h; refusal = λ why h. h }
stays-refused (states.Defined t) w = record { term = λ t' h. h; typed = λ made h. h; refusal = λ why h. h }
stays-refused (states.Typing t) w = stays-kept w.kind t w
stays-refused (states.Typed t made) w = record { term = λ t' h. h; typed = λ made' h. h; refusal = λ why h. h }
stays-refused (states.Refused t why) w = record { term = λ t' h. h; typed = λ made h. h; refusal = λ why' h. h }

stays-defined : (t : TermId) → Stays states.Undefined (states.Defined t)
stays-defined t = record { term = λ t' h. absurd (cc); typed = λ made h. h; refusal = λ why h. h }

-- a list with one element changed
pub get-set-same : {A : Type 0} (xs : List A) (i : ℕ) (x y : A) → slice_get xs i ≡ Some x → slice_get (slice_set xs i y) i ≡ Some y
get-set-same [] i x y h = absurd (cc)
get-set-same (z ∷ zs) zero x y h = refl
get-set-same (z ∷ zs) (suc i) x y h = get-set-same zs i x y h

pub get-set-other : {A : Type 0} (xs : List A) (i j : ℕ) (y : A) → (i ≡ j → ⊥) → slice_get (slice_set xs i y) j ≡ slice_get xs j
get-set-other [] i j y h = refl
get-set-other (z ∷ zs) zero zero y h = absurd (h refl)
get-set-other (z ∷ zs) zero (suc j) y h = refl
get-set-other (z ∷ zs) (suc i) zero y h = refl
get-set-other (z ∷ zs) (suc i) (suc j) y h = get-set-other zs i j y (λ e. h (ap suc e))

state_at : List Function → ℕ → FunctionState
state_at fs i = option_map_or (λ (g : Function). g.state) (slice_get fs i) states.Undefined

-- one function is changed, so all stay where it does
set-stays : (fs : List Function) (i j : ℕ) (f g : Function) → slice_get fs i ≡ Some f → Stays f.state g.state → Stays (state_at fs j) (state_at (slice_set fs i g) j)
unfolding state_at
set-stays fs i j f g there stays =
    elim (cases_eq i j) [
      | inl same ↦
          let old : slice_get fs j ≡ Some f = subst (λ (k : ℕ). slice_get fs k ≡ Some f) same there in
          let new : slice_get (slice_set fs i g) j ≡ Some g = subst (λ (k : ℕ). slice_get (slice_set fs i g) k ≡ Some g) same (get-set-same fs i f g there) in
          rw (old, new) stays
      | inr other ↦ rw (get-set-other fs i j g other) (stays-same (state_at fs j))
    ]

changed-stays : (fs : List Function) (i j : ℕ) (x : Option Function) (state : FunctionState) → slice_get fs i ≡ x → Stays (option_map_or (λ (g : Function). g.state) x states.Undefined) state → Stays (state_at fs j) (state_at (state_changed x state fs i) j)
changed-stays fs i j None state there stays = stays-same (state_at fs j)
changed-stays fs i j (Some f) state there stays = set-stays fs i j f (record f { state = state }) there stays

defined-stays : (fs : List Function) (i j : ℕ) (x : Option Function) (term : TermId) (place : Place) → slice_get fs i ≡ x → option_map_or (λ (g : Function). g.state) x states.Undefined ≡ states.Undefined → Stays (state_at fs j) (state_at (defined x term place fs i) j)
defined-stays fs i j None term place there none = stays-same (state_at fs j)
defined-stays fs i j (Some f) term place there none =
    set-stays fs i j f (record f { place = place; state = states.Defined term }) there (subst (λ (s : FunctionState). Stays s (states.Defined term)) (sym none) (stays-defined term))

pub state-stays : (s : Held) (f : FnId) (state : FunctionState) → Stays (state_of s f) state → AllStay s (with_state s f state)
unfolding state_at
state-stays s f state stays g = changed-stays s.functions f.0 g.0 (slice_get s.functions f.0) state refl stays

pub defining-stays : (s : Held) (f : FnId) (term : TermId) (place : Place) → state_of s f ≡ states.Undefined → AllStay s (with_defined s f term place)
unfolding state_at
defining-stays s f term place none g = defined-stays s.functions f.0 g.0 (slice_get s.functions f.0) term place refl none

-- a list keeps its elements where others come behind them
pub kept-front : {A : Type 0} (xs ys : List A) → AreKept xs (xs ++ ys)
kept-front [] ys i x h = absurd (cc)
kept-front (z ∷ zs) ys zero x h = h
kept-front (z ∷ zs) ys (suc i) x h = kept-front zs ys i x h

pub trees-kept : (ns : List nodes.Term) (n : nodes.Term) → AreKept (trees ns) (trees (ns ++ n ∷ []))
trees-kept ns n i x h = rw (grown-more planted [] ns (n ∷ [])) (kept-front (trees ns) (planted (trees ns) n ∷ []) i x h)

pub typed-trees-kept : (ns : List typed_nodes.Typed) (n : typed_nodes.Typed) → AreKept (typed_trees ns) (typed_trees (ns ++ n ∷ []))
typed-trees-kept ns n i x h = rw (grown-more typed_planted [] ns (n ∷ [])) (kept-front (typed_trees ns) (typed_planted (typed_trees ns) n ∷ []) i x h)

pub declaring-stays : (s : Held) (of : Option TypeId) (place : Place) → AllStay s (with_function s of place)
declaring-stays s of place f = declared s.functions f.0
  where
    declared : (fs : List Function) (i : ℕ) → Stays (option_map_or (λ (g : Function). g.state) (slice_get fs i) states.Undefined) (option_map_or (λ (g : Function). g.state) (slice_get (fs ++ record { place = place; declared = of; state = states.Undefined } ∷ []) i) states.Undefined)
    declared [] zero = stays-same states.Undefined
    declared [] (suc i) = stays-same states.Undefined
    declared (g ∷ gs) zero = stays-same g.state
    declared (g ∷ gs) (suc i) = declared gs i
