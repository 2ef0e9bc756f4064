-- How far functions have come: a function that is given the state that it has changes nothing, and what is kept where it comes further.
use Rattle.std.proofs.Common.{◌≡◌, ℕ, zero, suc, List, [], ◌∷◌, Option, Some, None, refl, sym, ap, ◌∙◌}
use Rattle.std.specs.Prelude.{slice_get, slice_set, unwrap_or}
use Rattle.std.specs.Option.{option_map_or}
use Rattle.tl_base.specs.declared.ids.FnId.{FnId}
use Rattle.terra_term.specs.declared.store.Function.{Function}
use Rattle.terra_term.specs.declared.store.FunctionState.{FunctionState}
use Rattle.terra_term.specs.declared.store.FunctionState.TheVariants as states
use Rattle.terra_term.specs.declared.refusal.Standing.TheVariants as standing
use Rattle.terra_term.specs.Held.{Held, state_of, standing_of, standing_in, with_state, state_changed, begun}
use Rattle.terra_term.specs.Keeping.{Stays}
use Rattle.terra_term.proofs.Staying.{state-stays}
use Rattle.exotype.specs.World.{StageState, with_store}
use Rattle.check_model.specs.declared.end.PartEnd.{PartEnd}
use Rattle.check_model.specs.declared.end.PartEnd.TheVariants as ends
use Rattle.check_model.specs.Bodies.{begun_in, state_after, stage_after}
use Rattle.check_expr.specs.Keeping.{KeepsStore}
use Rattle.check_expr.specs.Kept.{store_itself}

same_set : (fs : List Function) (i : ℕ) (f : Function) → slice_get fs i ≡ Some f → slice_set fs i f ≡ fs
same_set [] i f there = refl
same_set (g ∷ fs) zero f there = ap (λ (h : Function). h ∷ fs) (sym (ap (λ (o : Option Function). unwrap_or o g) there))
same_set (g ∷ fs) (suc i) f there = ap (λ (gs : List Function). g ∷ gs) (same_set fs i f there)

same_changed : (fs : List Function) (i : ℕ) (x : Option Function) → slice_get fs i ≡ x
    → state_changed x (option_map_or (λ (g : Function). g.state) x states.Undefined) fs i ≡ fs
same_changed fs i None there = refl
same_changed fs i (Some f) there = same_set fs i f there

pub same_state : (s : Held) (f : FnId) → with_state s f (state_of s f) ≡ s
same_state s f =
    ap (λ (fs : List Function). record s { functions = fs }) (same_changed s.functions f.0 (slice_get s.functions f.0) refl)

pub store_state : (s : Held) (f : FnId) (state : FunctionState) → Stays (state_of s f) state → KeepsStore s (with_state s f state)
store_state s f state stays =
    let same = store_itself s in
    record {
      functions = state-stays s f state stays;
      types = same.types;
      terms = same.terms;
      typed = same.typed;
      statics = same.statics;
      symbols = same.symbols;
      quotes = same.quotes;
      names = same.names;
      constants = same.constants;
      globals = same.globals;
    }

-- ---- what isn't defined isn't begun, and what isn't being typed isn't settled

not_begun : (s : FunctionState) → (standing_in s ≡ standing.Defined → ⊥) → begun s ≡ s
not_begun states.Undefined other = refl
not_begun (states.Defined t) other = absurd (other refl)
not_begun (states.Typing t) other = refl
not_begun (states.Typed t made) other = refl
not_begun (states.Refused t why) other = refl

pub begun_same : (w : StageState) (f : FnId) → (standing_of w.store f ≡ standing.Defined → ⊥) → begun_in w f ≡ w
begun_same w f other =
    ap (λ (s : FunctionState). with_store w (with_state w.store f s)) (not_begun (state_of w.store f) other)
    ∙ ap (λ (s : Held). with_store w s) (same_state w.store f)

not_settled : (r : PartEnd) (s : FunctionState) → (standing_in s ≡ standing.Typing → ⊥) → state_after r s ≡ s
not_settled (ends.Answered a) s other = refl
not_settled r (states.Typing t) other = absurd (other refl)
not_settled (ends.Made m) states.Undefined other = refl
not_settled (ends.Made m) (states.Defined t) other = refl
not_settled (ends.Made m) (states.Typed t made) other = refl
not_settled (ends.Made m) (states.Refused t why) other = refl
not_settled (ends.Stated id result) states.Undefined other = refl
not_settled (ends.Stated id result) (states.Defined t) other = refl
not_settled (ends.Stated id result) (states.Typed t made) other = refl
not_settled (ends.Stated id result) (states.Refused t why) other = refl
not_settled (ends.Refused w) states.Undefined other = refl
not_settled (ends.Refused w) (states.Defined t) other = refl
not_settled (ends.Refused w) (states.Typed t made) other = refl
not_settled (ends.Refused w) (states.Refused t why) other = refl

pub settled_same : (w : StageState) (f : FnId) (r : PartEnd) → (standing_of w.store f ≡ standing.Typing → ⊥) → stage_after f r w ≡ w
settled_same w f r other =
    ap (λ (s : FunctionState). with_store w (with_state w.store f s)) (not_settled r (state_of w.store f) other)
    ∙ ap (λ (s : Held). with_store w s) (same_state w.store f)

pub answered_same : (w : StageState) (f : FnId) → with_store w (with_state w.store f (state_of w.store f)) ≡ w
answered_same w f = ap (λ (s : Held). with_store w s) (same_state w.store f)
