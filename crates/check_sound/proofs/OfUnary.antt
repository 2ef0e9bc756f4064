-- Unary operators leave typed terms.
use Rattle.std.proofs.Common.{◌≡◌, ℕ, true, [], ◌∷◌, refl, ap, ◌∙◌}
use Rattle.std.specs.Prelude.{codes}
use Rattle.std.proofs.lemmas.Bool.{and_from, lt-ltb, or_left, or_right}
use Rattle.tl_base.specs.declared.place.Place.{Place}
use Rattle.tl_base.specs.declared.ids.TermId.{TermId}
use Rattle.lua_value.specs.declared.value.Value.{Value}
use Rattle.lua_value.specs.Values.{is_nil}
use Rattle.terra_types.specs.declared.types.TypeForm.{TypeForm}
use Rattle.terra_types.specs.declared.types.TypeForm.TheVariants as forms
use Rattle.check_cast.specs.Conversions.{form_of}
use Rattle.terra_term.specs.declared.refusal.RefusalKind.TheVariants.{BadOperand, NotPlace}
use Rattle.terra_term.specs.declared.operators.UnaryOperator.{UnaryOperator}
use Rattle.terra_term.specs.declared.operators.UnaryOperator.TheVariants as unary
use Rattle.terra_term.specs.declared.operators.Operation.TheVariants as operations
use Rattle.terra_term.specs.declared.typed.TypedExpression.TheVariants as te
use Rattle.terra_term.specs.Planted.{typed_trees, typed_at, typed_list_at}
use Rattle.terra_term.specs.TypedTerms as typed
use Rattle.terra_term.specs.WellTyped.{Scope, is_placed, is_integer, integer_form, points_in}
use Rattle.check_model.specs.declared.site.Site.{Site}
use Rattle.check_model.specs.declared.end.PartEnd.{PartEnd}
use Rattle.check_model.specs.declared.made.Made.{Made}
use Rattle.check_model.specs.Typing.{TypingState, form_in}
use Rattle.check_model.specs.Structs.{metamethod}
use Rattle.check_model.specs.Plans.{gives, refuse, pointing, ready}
use Rattle.check_model.specs.Calls.{call_metamethod}
use Rattle.check_model.specs.Operators.{by_own, unary_plan}
use Rattle.check_sound.specs.Sound.{foreseen}
use Rattle.check_sound.proofs.Tests.{same-refl}
use Rattle.check_sound.proofs.Scalars.{target-there, truth-is}
use Rattle.check_sound.proofs.Running.{Known, Holds}
use Rattle.check_sound.proofs.Combining.{In, Refuses, still, holds-pointing, holds-refuse, holds-if}
use Rattle.check_sound.proofs.OfConverting.{makes-address, makes-target}
use Rattle.check_sound.proofs.Arguments.{Gives, gives-on, holds-gives}
use Rattle.check_sound.proofs.OfCalls.{holds-metamethod}
use Rattle.check_sound.proofs.Rules.{truth-usable, integer-usable, one}

module _ (q : PartEnd → TypingState → Type 0) (b : ℕ) (s : Scope) (site : Site) (base : site.base ≡ b) where
  -- ---- unary operators

  holds-own : (w : TypingState) (i : In b s w) (r : Refuses q w) (h : Value) (m : Made) (at : Place)
      (source : TermId) →
      Gives q b s w → is_placed at ≡ true → Known s w.stage m → Holds q (by_own h m at source site) w
  holds-own w i r h m at source k placed a =
      holds-if q b s w i (is_nil h) (refuse BadOperand at site) (call_metamethod h (ready m ∷ []) at source site)
      (λ z. holds-refuse q b s w i r BadOperand at site)
      (λ z. holds-metamethod q b s site base w i r h (ready m ∷ []) at source k placed (a, tt))

  holds-unary-by : (w : TypingState) (i : In b s w) (r : Refuses q w) (op : UnaryOperator) (form : TypeForm) (m : Made)
      (at : Place) (source : TermId) →
      Gives q b s w → is_placed at ≡ true → Known s w.stage m → form_of w.stage.store.types m.of ≡ form →
      Holds q (unary_plan w.stage op form m at source site) w
  holds-unary-by w i r unary.Address form m at source k placed a h =
      holds-if q b s w i m.is_place (pointing m.of (λ p. gives source at p (te.Address m.id)))
      (refuse NotPlace m.at site)
      (λ place. holds-pointing q b s w i m.of (λ p. gives source at p (te.Address m.id)) a.there
      (λ v p o points there. holds-gives q b s v o.inside source at p (te.Address m.id)
      (typed.Address (typed_at (typed_trees v.stage.store.typed) m.id))
      (makes-address s v.stage at p m placed there (still b s w v i o m a) place points) (gives-on q b s w v o k)))
      (λ d. holds-refuse q b s w i r NotPlace m.at site)
  holds-unary-by w i r unary.Dereference (forms.Pointer t) m at source k placed a h =
      holds-gives q b s w i source at t (te.Dereference m.id)
      (typed.Dereference (typed_at (typed_trees w.stage.store.typed) m.id))
      (makes-target s w.stage at t m placed (lt-ltb t.0 _ (target-there w.stage.store.types i.sound.types m.of t h)) a
      (ap (λ f. points_in f t) h ∙ same-refl t)) k
  holds-unary-by w i r unary.Dereference _ m at source k placed a h = holds-refuse q b s w i r BadOperand at site
  holds-unary-by w i r unary.Negate (forms.Integer n) m at source k placed a h =
      holds-gives q b s w i source at m.of (te.Operate operations.Negate (m.id ∷ []))
      (typed.Operate operations.Negate (typed_list_at (typed_trees w.stage.store.typed) (m.id ∷ [])))
      (one s w.stage at m.of operations.Negate m refl placed a.there a (integer-usable w.stage m.of (ap integer_form h))
      (and_from _ _ (and_from _ _ refl (same-refl m.of)) (ap integer_form h))) k
  holds-unary-by w i r unary.Negate _ m at source k placed a h =
      holds-own w i r (metamethod w.stage m.of (codes "__unm")) m at source k placed a
  holds-unary-by w i r unary.Not (forms.Integer n) m at source k placed a h =
      holds-gives q b s w i source at m.of (te.Operate operations.Not (m.id ∷ []))
      (typed.Operate operations.Not (typed_list_at (typed_trees w.stage.store.typed) (m.id ∷ [])))
      (one s w.stage at m.of operations.Not m refl placed a.there a (integer-usable w.stage m.of (ap integer_form h))
      (and_from _ _ (and_from _ _ refl (same-refl m.of)) (or_left _ _ (ap integer_form h)))) k
  holds-unary-by w i r unary.Not forms.Bool m at source k placed a h =
      let truth = truth-is w.stage.store.types i.sound.types m.of h in
      holds-gives q b s w i source at m.of (te.Operate operations.Not (m.id ∷ []))
      (typed.Operate operations.Not (typed_list_at (typed_trees w.stage.store.typed) (m.id ∷ [])))
      (one s w.stage at m.of operations.Not m refl placed a.there a (truth-usable w.stage i.sound m.of truth)
      (and_from _ _ (and_from _ _ refl (same-refl m.of)) (or_right (is_integer (foreseen w.stage) m.of) _ truth))) k
  holds-unary-by w i r unary.Not _ m at source k placed a h =
      holds-own w i r (metamethod w.stage m.of (codes "__not")) m at source k placed a

  pub holds-unary : (w : TypingState) (i : In b s w) (r : Refuses q w) (op : UnaryOperator) (m : Made) (at : Place)
      (source : TermId) →
      Gives q b s w → is_placed at ≡ true → Known s w.stage m →
      Holds q (unary_plan w.stage op (form_in w.stage m.of) m at source site) w
  holds-unary w i r op m at source k placed a = holds-unary-by w i r op (form_in w.stage m.of) m at source k placed a
      refl
