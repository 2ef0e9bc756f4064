-- A world with the same functions grows.
use Rattle.std.proofs.Common.{◌≡◌, ℕ, ◌<◌, List, length, Option, Some, None, refl, sym, ap, ◌∙◌, subst, slice_get}
use Rattle.std.specs.Prelude.{is_some}
use Rattle.std.specs.Option.{option_map_or}
use Rattle.tl_base.specs.declared.ids.FnId.{FnId}
use Rattle.tl_base.specs.declared.ids.TermId.{TermId}
use Rattle.tl_base.specs.declared.ids.TypeId.{TypeId}
use Rattle.terra_types.specs.Keeping.{KeepsTypes}
use Rattle.terra_term.specs.declared.store.Function.{Function}
use Rattle.terra_term.specs.declared.store.FunctionState.{FunctionState}
use Rattle.terra_term.specs.declared.store.FunctionState.TheVariants as standing
use Rattle.terra_term.specs.declared.typed.Typed.{Typed}
use Rattle.terra_term.specs.Held.{state_of, term_in}
use Rattle.terra_term.specs.Keeping.{AreKept, Stays}
use Rattle.terra_term.proofs.Staying.{stays-same}
use Rattle.exotype.specs.World.{StageState}
use Rattle.check_model.specs.declared.known.KnownResult.TheVariants.{Is, NotYet, BeingTyped}
use Rattle.check_model.specs.Typing.{function_at}
use Rattle.check_model.specs.Calls.{known_result, parameter_types, params_of, params_in, result_in, declared_params, declared_result}
use Rattle.check_model.specs.Calls.{written_in, found_in, known_or, parameters_in_state, result_in_state}
use Rattle.check_sound.specs.Sound.{TermIsThere}
use Rattle.check_sound.proofs.Tests.{none-some}
use Rattle.check_sound.proofs.Shapes.{form-stays}
use Rattle.check_sound.proofs.Grows.{Grows, get-same}
use Rattle.check_sound.proofs.Knowing.{known-some, not-yet}
use Rattle.check_sound.proofs.Worlds.{Fair}

-- ---- a world with the same functions

module _ (w v : StageState) (f : Fair w) (same : (f : FnId) → function_at v f ≡ function_at w f)
    (terms : AreKept w.store.terms v.store.terms) (nodes : AreKept w.store.typed v.store.typed)
    (types : KeepsTypes w.store.types v.store.types) where
  pub declared-params-stay : (o : Option TypeId) (ps : List TypeId) → declared_params w.store.types o ≡ Some ps →
      declared_params v.store.types o ≡ Some ps
  declared-params-stay None ps p = absurd (none-some ps p)
  declared-params-stay (Some t) ps p =
      ap params_in (form-stays w.store.types v.store.types types (λ form. is_some (params_in form)) refl
      (λ n q. refl) t (ap is_some p)) ∙ p

  pub declared-result-stays : (o : Option TypeId) (r : TypeId) → declared_result w.store.types o ≡ Some r →
      declared_result v.store.types o ≡ Some r
  declared-result-stays None r p = absurd (none-some r p)
  declared-result-stays (Some t) r p =
      ap result_in (form-stays w.store.types v.store.types types (λ form. is_some (result_in form)) refl
      (λ n q. refl) t (ap is_some p)) ∙ p

  term-same : (t : TermId) → t.0 < length w.store.terms → slice_get v.store.terms t.0 ≡ slice_get w.store.terms t.0
  term-same t h = get-same w.store.terms v.store.terms terms t.0 h

  params-by : (x : Function) (z : FunctionState) (ps : List TypeId) → TermIsThere w (term_in z) →
      parameter_types w x z ≡ Some ps →
      parameter_types v x z ≡ Some ps
  params-by x standing.Undefined ps d p = declared-params-stay x.declared ps p
  params-by x (standing.Defined t) ps d p = ap (λ o. Some (params_of o)) (term-same t d) ∙ p
  params-by x (standing.Typing t) ps d p = ap (λ o. Some (params_of o)) (term-same t d) ∙ p
  params-by x (standing.Typed t made) ps d p = ap (λ o. Some (params_of o)) (term-same t d) ∙ p
  params-by x (standing.Refused t why) ps d p = ap (λ o. Some (params_of o)) (term-same t d) ∙ p

  result-found : (i : ℕ) (o : Option Typed) (r : TypeId) → slice_get w.store.typed i ≡ o → found_in o ≡ Some r →
      found_in (slice_get v.store.typed i) ≡ Some r
  result-found i None r at p = absurd (none-some r p)
  result-found i (Some n) r at p = ap found_in (nodes i n at) ∙ p

  results-by : (x : Function) (z : FunctionState) (r : TypeId) → TermIsThere w (term_in z) →
      known_result w x z ≡ Is r → known_result v x z ≡ Is r
  results-by x standing.Undefined r d p =
      ap (λ o. known_or o NotYet) (declared-result-stays x.declared r
      (known-some (declared_result w.store.types x.declared) NotYet r not-yet p))
  results-by x (standing.Defined t) r d p = ap (λ o. known_or (written_in o) NotYet) (term-same t d) ∙ p
  results-by x (standing.Typing t) r d p = ap (λ o. known_or (written_in o) BeingTyped) (term-same t d) ∙ p
  results-by x (standing.Refused t why) r d p = ap (λ o. known_or (written_in o) NotYet) (term-same t d) ∙ p
  results-by x (standing.Typed t made) r d p =
      ap (λ o. known_or o NotYet) (result-found made.0 (slice_get w.store.typed made.0) r refl
      (known-some (found_in (slice_get w.store.typed made.0)) NotYet r not-yet p))

  params-found : (i : FnId) (o : Option Function) (ps : List TypeId) → function_at w i ≡ o →
      parameters_in_state w o ≡ Some ps →
      parameters_in_state v o ≡ Some ps
  params-found i None ps at p = absurd (none-some ps p)
  params-found i (Some x) ps at p = params-by x x.state ps (f.defined i x at) p

  results-found : (i : FnId) (o : Option Function) (r : TypeId) → function_at w i ≡ o → result_in_state w o ≡ Is r →
      result_in_state v o ≡ Is r
  results-found i None r at p = absurd (not-yet r p)
  results-found i (Some x) r at p = results-by x x.state r (f.defined i x at) p

  pub grows-same : Grows w v
  grows-same = record {
    terms = terms;
    typed_nodes = nodes;
    types = types;
    functions = λ i. subst (λ (o : Option Function). Stays (state_of w.store i)
        (option_map_or (λ (x : Function). x.state) o standing.Undefined))
        (sym (same i)) (stays-same (state_of w.store i));
    parameters = λ i ps p. ap (parameters_in_state v) (same i) ∙ params-found i (function_at w i) ps refl p;
    results = λ i r p. ap (result_in_state v) (same i) ∙ results-found i (function_at w i) r refl p;
  }
