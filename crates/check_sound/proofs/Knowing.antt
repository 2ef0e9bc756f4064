-- Which functions are foreseen: those whose type is known, and with this type.
use Rattle.std.proofs.Common.{◌≡◌, true, false, List, [], ◌∷◌, Option, Some, None, refl, sym, ap, ◌∙◌, subst, slice_get}
use Rattle.std.specs.Prelude.{if◌then◌else◌}
use Rattle.std.proofs.lemmas.Bool.{and_parts, and_from}
use Rattle.tl_base.specs.declared.ids.FnId.{FnId}
use Rattle.tl_base.specs.declared.ids.TermId.{TermId}
use Rattle.tl_base.specs.declared.ids.TypeId.{TypeId}
use Rattle.terra_term.specs.declared.store.Function.{Function}
use Rattle.terra_term.specs.declared.store.FunctionState.{FunctionState}
use Rattle.terra_term.specs.declared.store.FunctionState.TheVariants as standing
use Rattle.terra_term.specs.Held.{typed_in}
use Rattle.terra_term.specs.Stores.{Contents, Callable, callable_of}
use Rattle.terra_term.specs.TypedTerms as typed
use Rattle.terra_term.specs.WellTyped.{same, are_same, types_of_names, has_type}
use Rattle.exotype.specs.World.{StageState}
use Rattle.check_model.specs.declared.known.KnownResult.{KnownResult}
use Rattle.check_model.specs.declared.known.KnownResult.TheVariants.{Is, NotYet, BeingTyped}
use Rattle.check_model.specs.Typing.{function_at}
use Rattle.check_model.specs.Calls.{known_result, parameter_types, known_or, parameters_of, result_of, parameters_in_state, result_in_state}
use Rattle.check_sound.specs.Sound.{foreseen, foreseen_of, as_typed, bare, bare_if, bare_names, is_typed_state, typed_body, HasBodyOf}
use Rattle.check_sound.proofs.Tests.{no, same-id, same-refl, same-ids, ids-refl, none-some, same-some}
use Rattle.check_sound.proofs.Foreseen.{typed-kept, FoundAs, base, found, not-found, body-item, body-result}

-- ---- the type of what is foreseen

-- that it is typed
abbrev pub BodiesThere : StageState → Type 0
BodiesThere w = (f : FnId) (t made : TermId) (g : Function) → function_at w f ≡ Some g →
    g.state ≡ standing.Typed t made → HasBodyOf w t made

abbrev pub Knows : StageState → FnId → List TypeId → TypeId → Type 0
Knows w f ps r = (parameters_of w f ≡ Some ps) × (result_of w f ≡ Is r)

bare-types : (ps : List TypeId) → types_of_names (bare_names ps) ≡ ps
bare-types [] = refl
bare-types (p ∷ ps) = ap (λ l. p ∷ l) (bare-types ps)

-- a function is callable with this type
record HasType (w : StageState) (f : FnId) (ps : List TypeId) (r : TypeId) : Type 0 where
  callable : Callable
  is : callable_of (foreseen w) f ≡ Some callable
  parameters : types_of_names callable.body.parameters ≡ ps
  result : callable.body.result ≡ r

pass : (w : StageState) (f : FnId) (ps : List TypeId) (r : TypeId) → HasType w f ps r →
    has_type ps r (callable_of (foreseen w) f) ≡ true
pass w f ps r h =
    ap (has_type ps r) h.is ∙
    and_from (are_same ps (types_of_names h.callable.body.parameters)) (same r h.callable.body.result)
    (ap (are_same ps) h.parameters ∙ ids-refl ps) (ap (same r) h.result ∙ same-refl r)

-- how a function is called
pub called-as : (c : Contents) (f : FnId) (g : Function) (made : TermId) (b : typed.Body) →
    slice_get c.functions f.0 ≡ Some g →
    typed_in g.state ≡ Some made → slice_get c.typed made.0 ≡ Some (typed.body b) →
    callable_of c f ≡ Some (record { at = g.place; body = b })
called-as c f g made b h i j = rw (h, i, j) refl

pub uncalled : (c : Contents) (f : FnId) (g : Function) → slice_get c.functions f.0 ≡ Some g → typed_in g.state ≡ None →
    callable_of c f ≡ None
uncalled c f g h i = rw (h, i) refl

not-there : (c : Contents) (f : FnId) → slice_get c.functions f.0 ≡ None → callable_of c f ≡ None
not-there c f h = rw h refl

pub typed-callable : (w : StageState) (f : FnId) (g : Function) (t made : TermId) (b : typed.Body) →
    function_at w f ≡ Some g →
    g.state ≡ standing.Typed t made → typed_body w made ≡ Some b →
    callable_of (foreseen w) f ≡ Some (record { at = g.place; body = b })
typed-callable w f g t made b at is there =
    let none : foreseen_of w g ≡ None =
    ap (λ s. if is_typed_state s then None else bare_if (parameter_types w g g.state) (known_result w g g.state))
    is in
    let here : slice_get (foreseen w).functions f.0 ≡ Some g =
    subst (λ o. FoundAs o g (foreseen w).functions (foreseen w).typed f.0) none (found w f g at) in
    called-as (foreseen w) f g made b here (ap typed_in is)
    (typed-kept w w.store.functions (base w) made.0 (typed.body b) (body-item w made b there))

abbrev bare-body : List TypeId → TypeId → typed.Body
bare-body ps r = record { parameters = bare_names ps; result = r; body = typed.done }

-- how one is called that isn't typed
bare-callable : (w : StageState) (f : FnId) (g : Function) (ps : List TypeId) (r : TypeId) → function_at w f ≡ Some g →
    is_typed_state g.state ≡ false → parameter_types w g g.state ≡ Some ps → known_result w g g.state ≡ Is r →
    callable_of (foreseen w) f ≡ Some (record { at = g.place; body = bare-body ps r })
bare-callable w f g ps r at untyped p q =
    let known : foreseen_of w g ≡ Some (bare ps r) =
    ap (λ s. if s then None else bare_if (parameter_types w g g.state) (known_result w g g.state)) untyped ∙
    (ap (λ o. bare_if o (known_result w g g.state)) p ∙ ap (bare_if (Some ps)) q) in
    let here = subst (λ o. FoundAs o g (foreseen w).functions (foreseen w).typed f.0) known (found w f g at) in
    called-as (foreseen w) f (as_typed g here.0) here.0 (bare-body ps r) here.1 refl here.2

unknown-callable : (w : StageState) (f : FnId) (g : Function) → function_at w f ≡ Some g → typed_in g.state ≡ None →
    foreseen_of w g ≡ None → callable_of (foreseen w) f ≡ None
unknown-callable w f g at untyped none =
    uncalled (foreseen w) f g (subst (λ o. FoundAs o g (foreseen w).functions (foreseen w).typed f.0) none
    (found w f g at)) untyped

-- what is known, and what isn't
pub known-some : (o : Option TypeId) (x : KnownResult) (r : TypeId) → ((q : TypeId) → x ≡ Is q → ⊥) →
    known_or o x ≡ Is r → o ≡ Some r
known-some None x r apart h = absurd (apart r h)
known-some (Some t) x r apart h = ap (λ z. Some z) (cc h)

pub not-yet : (q : TypeId) → NotYet ≡ Is q → ⊥
not-yet q e = cc e

pub being : (q : TypeId) → BeingTyped ≡ Is q → ⊥
being q e = cc e

pub same-is : (r q : TypeId) → Is r ≡ Is q → r ≡ q
same-is r q e = cc e

-- ---- what is known is foreseen

module _ (w : StageState) (there : BodiesThere w) (f : FnId) where
  to-bare : (g : Function) (ps : List TypeId) (r : TypeId) → function_at w f ≡ Some g → is_typed_state g.state ≡ false →
      parameter_types w g g.state ≡ Some ps → known_result w g g.state ≡ Is r → HasType w f ps r
  to-bare g ps r at untyped p q = record {
    callable = record { at = g.place; body = bare-body ps r };
    is = bare-callable w f g ps r at untyped p q;
    parameters = bare-types ps;
    result = refl;
  }

  to-state : (g : Function) (ps : List TypeId) (r : TypeId) (s : FunctionState) → g.state ≡ s →
      function_at w f ≡ Some g →
      parameter_types w g g.state ≡ Some ps → known_result w g g.state ≡ Is r → HasType w f ps r
  to-state g ps r standing.Undefined is at p q = to-bare g ps r at (ap is_typed_state is) p q
  to-state g ps r (standing.Defined t) is at p q = to-bare g ps r at (ap is_typed_state is) p q
  to-state g ps r (standing.Typing t) is at p q = to-bare g ps r at (ap is_typed_state is) p q
  to-state g ps r (standing.Refused t why) is at p q = to-bare g ps r at (ap is_typed_state is) p q
  to-state g ps r (standing.Typed t made) is at p q =
      let h = there f t made g at is in
      record {
        callable = record { at = g.place; body = h.body };
        is = typed-callable w f g t made h.body at is h.there;
        parameters = h.parameters ∙ same-some _ ps (ap (parameter_types w g) (sym is) ∙ p);
        result = same-is _ r (ap (λ o. known_or o NotYet) (sym (body-result w made h.body h.there)) ∙
            (ap (known_result w g) (sym is) ∙ q));
      }

  to-found : (ps : List TypeId) (r : TypeId) (o : Option Function) → function_at w f ≡ o →
      parameters_in_state w o ≡ Some ps →
      result_in_state w o ≡ Is r → HasType w f ps r
  to-found ps r None at p q = absurd (none-some ps p)
  to-found ps r (Some g) at p q = to-state g ps r g.state refl at p q

  pub knows-to : (ps : List TypeId) (r : TypeId) → Knows w f ps r → has_type ps r (callable_of (foreseen w) f) ≡ true
  knows-to ps r k = pass w f ps r (to-found ps r (function_at w f) refl k.0 k.1)

  -- and only that

  from-typed : (g : Function) (t made : TermId) (k : Callable) → function_at w f ≡ Some g →
      g.state ≡ standing.Typed t made →
      callable_of (foreseen w) f ≡ Some k → Knows w f (types_of_names k.body.parameters) k.body.result
  from-typed g t made k at is called =
      let h = there f t made g at is in
      let same : h.body ≡ k.body =
      ap (λ x. x.body) (same-some (record { at = g.place; body = h.body }) k
      (sym (typed-callable w f g t made h.body at is h.there) ∙ called)) in (
        ap (parameters_in_state w) at ∙ (ap (parameter_types w g) is ∙
            ap (λ l. Some l) (sym h.parameters ∙ ap (λ b. types_of_names b.parameters) same)),
        ap (result_in_state w) at ∙ (ap (known_result w g) is ∙
            (ap (λ o. known_or o NotYet) (body-result w made h.body h.there) ∙ ap (λ b. Is b.result) same)),
      )

  from-bare : (g : Function) (k : Callable) (o : Option (List TypeId)) (z : KnownResult) → function_at w f ≡ Some g →
      is_typed_state g.state ≡ false → typed_in g.state ≡ None → parameter_types w g g.state ≡ o →
      known_result w g g.state ≡ z →
      callable_of (foreseen w) f ≡ Some k → Knows w f (types_of_names k.body.parameters) k.body.result
  from-bare g k (Some ps) (Is r) at untyped none p q called =
      let same : bare-body ps r ≡ k.body =
      ap (λ x. x.body) (same-some (record { at = g.place; body = bare-body ps r }) k
      (sym (bare-callable w f g ps r at untyped p q) ∙ called)) in (
        ap (parameters_in_state w) at ∙ (p ∙ ap (λ l. Some l)
            (sym (bare-types ps) ∙ ap (λ b. types_of_names b.parameters) same)),
        ap (result_in_state w) at ∙ (q ∙ ap (λ b. Is b.result) same),
      )
  from-bare g k None z at untyped none p q called =
      absurd (none-some k (sym (unknown-callable w f g at none
      (ap (λ s. if s then None else bare_if (parameter_types w g g.state) (known_result w g g.state)) untyped ∙
      ap (λ o. bare_if o (known_result w g g.state)) p)) ∙ called))
  from-bare g k (Some ps) NotYet at untyped none p q called =
      absurd (none-some k (sym (unknown-callable w f g at none
      (ap (λ s. if s then None else bare_if (parameter_types w g g.state) (known_result w g g.state)) untyped ∙
      (ap (λ o. bare_if o (known_result w g g.state)) p ∙ ap (bare_if (Some ps)) q))) ∙ called))
  from-bare g k (Some ps) BeingTyped at untyped none p q called =
      absurd (none-some k (sym (unknown-callable w f g at none
      (ap (λ s. if s then None else bare_if (parameter_types w g g.state) (known_result w g g.state)) untyped ∙
      (ap (λ o. bare_if o (known_result w g g.state)) p ∙ ap (bare_if (Some ps)) q))) ∙ called))

  from-state : (g : Function) (k : Callable) (s : FunctionState) → g.state ≡ s → function_at w f ≡ Some g →
      callable_of (foreseen w) f ≡ Some k → Knows w f (types_of_names k.body.parameters) k.body.result
  from-state g k (standing.Typed t made) is at called = from-typed g t made k at is called
  from-state g k standing.Undefined is at called =
      from-bare g k (parameter_types w g g.state) (known_result w g g.state) at (ap is_typed_state is)
      (ap typed_in is) refl refl called
  from-state g k (standing.Defined t) is at called =
      from-bare g k (parameter_types w g g.state) (known_result w g g.state) at (ap is_typed_state is)
      (ap typed_in is) refl refl called
  from-state g k (standing.Typing t) is at called =
      from-bare g k (parameter_types w g g.state) (known_result w g g.state) at (ap is_typed_state is)
      (ap typed_in is) refl refl called
  from-state g k (standing.Refused t why) is at called =
      from-bare g k (parameter_types w g g.state) (known_result w g g.state) at (ap is_typed_state is)
      (ap typed_in is) refl refl called

  from-found : (k : Callable) (o : Option Function) → function_at w f ≡ o → callable_of (foreseen w) f ≡ Some k →
      Knows w f (types_of_names k.body.parameters) k.body.result
  from-found k None at called = absurd (none-some k (sym (not-there (foreseen w) f (not-found w f at)) ∙ called))
  from-found k (Some g) at called = from-state g k g.state refl at called

  -- what is callable, and how
  pub known-of : (k : Callable) → callable_of (foreseen w) f ≡ Some k →
      Knows w f (types_of_names k.body.parameters) k.body.result
  known-of k called = from-found k (function_at w f) refl called

  from-callable : (ps : List TypeId) (r : TypeId) (o : Option Callable) → callable_of (foreseen w) f ≡ o →
      has_type ps r o ≡ true →
      Knows w f ps r
  from-callable ps r None called h = absurd (no h)
  from-callable ps r (Some k) called h =
      let both = and_parts (are_same ps (types_of_names k.body.parameters)) (same r k.body.result) h in
      let is = known-of k called in (
        is.0 ∙ ap (λ l. Some l) (sym (same-ids ps (types_of_names k.body.parameters) both.0)),
        is.1 ∙ ap (λ t. Is t) (sym (same-id r k.body.result both.1)),
      )

  pub knows-from : (ps : List TypeId) (r : TypeId) → has_type ps r (callable_of (foreseen w) f) ≡ true → Knows w f ps r
  knows-from ps r h = from-callable ps r (callable_of (foreseen w) f) refl h
