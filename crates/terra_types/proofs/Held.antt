-- What holds of the table stays, whatever is made.
use Rattle.std.specs.Prelude.{◌≡◌, refl, ℕ, suc, ◌+◌, Bool, true, false, List, [], ◌∷◌, ◌++◌, length, position, slice_get, Option, Some}
use Rattle.std.specs.Prelude.{None, Result, Ok, Err, OnOk, OnErr}
use Rattle.std.proofs.Common.{sym, ◌∙◌, ap, subst, arith, append_assoc, true≢false}
use Rattle.std.specs.Option.{option_map}
use Rattle.std.proofs.lemmas.Option.{slice_get-map}
use Rattle.tl_base.specs.declared.place.Place.{Place}
use Rattle.terra_types.specs.declared.key.TypeKey.{TypeKey}
use Rattle.terra_types.specs.declared.layout.Layout.{Layout}
use Rattle.terra_types.specs.declared.table.Kept.{Kept}
use Rattle.terra_types.specs.declared.types.TypeForm.{TypeForm}
use Rattle.terra_types.specs.declared.types.TypeForm.TheVariants as forms
use Rattle.terra_types.specs.Holding.{IsHeld}
use Rattle.terra_types.specs.Kept.{Fits, forms_in, elements_for, kept_in, with_kept}
use Rattle.terra_types.specs.Making.{is_same, structs_in}
use Rattle.terra_types.specs.Opening.{NamesBelow, opening_types}
use Rattle.terra_types.proofs.Inserting.{map-push}
use Rattle.terra_types.proofs.Pushing.{Comes, kept-push}

-- what holds of both outcomes of a call holds after it
pub after_call : {A E X : Type 0} (r : Result A E) (P : X → Type 0) (new made old : X) → OnOk r (new ≡ made) → OnErr r (new ≡ old) → P made → P old → P new
after_call (Ok x) P new made old ok err p q = subst P (sym ok) p
after_call (Err x) P new made old ok err p q = subst P (sym err) q

abbrev pub is_struct : TypeForm → Bool
is_struct (forms.Struct number place layout) = true
is_struct _ = false

abbrev pub counted : Bool → ℕ → ℕ
counted true n = n + 1
counted false n = n

pub structs_in-push : (types : List TypeForm) (form : TypeForm) → structs_in (types ++ form ∷ []) ≡ counted (is_struct form) (structs_in types)
structs_in-push [] (forms.Integer i) = refl
structs_in-push [] forms.Bool = refl
structs_in-push [] forms.Unit = refl
structs_in-push [] (forms.Pointer t) = refl
structs_in-push [] (forms.Array t n) = refl
structs_in-push [] (forms.Function ps r) = refl
structs_in-push [] (forms.Struct n p l) = refl
structs_in-push (forms.Integer i ∷ types) form = structs_in-push types form
structs_in-push (forms.Bool ∷ types) form = structs_in-push types form
structs_in-push (forms.Unit ∷ types) form = structs_in-push types form
structs_in-push (forms.Pointer t ∷ types) form = structs_in-push types form
structs_in-push (forms.Array t n ∷ types) form = structs_in-push types form
structs_in-push (forms.Function ps r ∷ types) form = structs_in-push types form
structs_in-push (forms.Struct n p l ∷ types) form = ap suc (structs_in-push types form) ∙ one_more (is_struct form) (structs_in types)
  where
    one_more : (b : Bool) (n : ℕ) → suc (counted b n) ≡ counted b (suc n)
    one_more true n = omega arith
    one_more false n = refl

pub held-push : (es : List (TypeKey × Kept)) (n : ℕ) (key : TypeKey) (kept : Kept) → IsHeld es n → Fits key kept.form → kept.elements ≡ elements_for es kept.form → Comes (forms_in es) kept.form → IsHeld (es ++ (key, kept) ∷ []) (counted (is_struct kept.form) n)
held-push es n key kept h fits own c =
    record {
      opened = (h.opened.0 ++ kept.form ∷ [], map-push (λ e. e.1.form) es (key, kept) ∙ (ap (λ l. l ++ kept.form ∷ []) h.opened.1 ∙ append_assoc opening_types h.opened.0 (kept.form ∷ [])));
      kept = kept-push es (key, kept) h.kept fits own c;
      counted = ap (counted (is_struct kept.form)) h.counted ∙ sym (ap structs_in (map-push (λ e. e.1.form) es (key, kept)) ∙ structs_in-push (forms_in es) kept.form);
    }

no_struct : (form : TypeForm) (number : ℕ) (place : Place) (layout : Option Layout) → is_struct form ≡ false → form ≡ forms.Struct number place layout → ⊥
no_struct form number place layout plain same = true≢false (sym (ap is_struct same) ∙ plain)

pub plain-comes : (types : List TypeForm) (form : TypeForm) → is_struct form ≡ false → NamesBelow (length types) form → position (is_same form) types ≡ None → Comes types form
plain-comes types form plain below new =
    record {
      new = new;
      below = below;
      numbered = λ number place layout same. absurd (no_struct form number place layout plain same);
      unsettled = λ number place layout same. no_struct form number place (Some layout) plain same;
    }

pub held-made : (es : List (TypeKey × Kept)) (n : ℕ) (key : TypeKey) (kept : Kept) → IsHeld es n → Fits key kept.form → kept.elements ≡ elements_for es kept.form → is_struct kept.form ≡ false → NamesBelow (length (forms_in es)) kept.form → IsHeld (with_kept es key kept) n
held-made es n key kept h fits own plain below = by (position (is_same kept.form) (forms_in es)) refl
  where
    by : (o : Option ℕ) → position (is_same kept.form) (forms_in es) ≡ o → IsHeld (kept_in o es key kept) n
    by (Some i) at = h
    by None at = subst (λ b. IsHeld (es ++ (key, kept) ∷ []) (counted b n)) plain (held-push es n key kept h fits own (plain-comes (forms_in es) kept.form plain below at))

pub form_of-entries : (es : List (TypeKey × Kept)) (i : ℕ) → option_map (λ k. k.form) (option_map (λ e. e.1) (slice_get es i)) ≡ slice_get (forms_in es) i
form_of-entries es i = twice (slice_get es i) ∙ sym (slice_get-map (λ e. e.1.form) es i)
  where
    twice : (o : Option (TypeKey × Kept)) → option_map (λ k. k.form) (option_map (λ e. e.1) o) ≡ option_map (λ e. e.1.form) o
    twice None = refl
    twice (Some e) = refl
