-- What is kept of a type gives its measure.
use Rattle.std.specs.Prelude.{◌≡◌, refl, ℕ, zero, suc, ◌<◌, ◌≤◌, false, List, [], ◌∷◌, length, slice_get, Option, Some, None, IfSome}
use Rattle.std.proofs.Common.{sym, ◌∙◌, ap, subst, arith, lit≤}
use Rattle.std.specs.Option.{option_map}
use Rattle.std.proofs.lemmas.Option.{none-some, same_Some, slice_get_within, slice_get-get_or}
use Rattle.tl_base.specs.declared.ids.TypeId.{TypeId}
use Rattle.terra_types.specs.declared.elements.Elements.{Elements}
use Rattle.terra_types.specs.declared.key.TypeKey.{TypeKey}
use Rattle.terra_types.specs.declared.measure.Measure.{Measure}
use Rattle.terra_types.specs.declared.table.Kept.{Kept}
use Rattle.terra_types.specs.declared.types.Integer.TheVariants.{Int8, Int16, Int32, Int64, Uint8, Uint16, Uint32, Uint64}
use Rattle.terra_types.specs.declared.types.TypeForm.{TypeForm}
use Rattle.terra_types.specs.declared.types.TypeForm.TheVariants as forms
use Rattle.terra_types.specs.Elements.{elements_of, spread}
use Rattle.terra_types.specs.Kept.{AreKept, forms_in, elements_in, elements_for, kept_at, own_measure, by_elements, kept_measure}
use Rattle.terra_types.specs.Opening.{NamesBelow}
use Rattle.terra_types.specs.Sizes.{Within, for_some, measured, measure_of, repeated}
use Rattle.terra_types.proofs.Growing.{is_array, array-measure, plain-measure, past-measure}
use Rattle.terra_types.proofs.Keys.{length-forms}
use Rattle.terra_types.proofs.Pushing.{form-at}
use Rattle.terra_types.proofs.Spreading.{spread-first, spread-next, spread-within}

-- ---- what follows one option follows another

for_some-cong : {A B : Type 0} (o : Option A) (f g : A → Option B) → ((x : A) → f x ≡ g x) → for_some o f ≡ for_some o g
for_some-cong None f g h = refl
for_some-cong (Some x) f g h = h x

for_some-twice : {A B C : Type 0} (o : Option A) (f : A → Option B) (g : B → Option C) → for_some o (λ x. for_some (f x) g) ≡ for_some (for_some o f) g
for_some-twice None f g = refl
for_some-twice (Some x) f g = refl

pub get-past : {A : Type 0} (xs : List A) (i : ℕ) → slice_get xs i ≡ None → length xs ≤ i
get-past [] i h = omega arith
get-past (x ∷ xs) zero h = absurd (none-some x (sym h))
get-past (x ∷ xs) (suc i) h = omega (arith, get-past xs i h)

-- ---- each type

-- what is kept of a type gives its measure, and counts no more elements than there are in the largest array
record Gives (es : List (TypeKey × Kept)) (i : ℕ) (e : TypeKey × Kept) : Type 0 where
  value : measure_of (forms_in es) (record { 0 = i }) ≡ by_elements es e.1 e.1.elements
  covered : (x : Elements) → e.1.elements ≡ Some x → x.count ≤ x.largest

plain-elements : (es : List (TypeKey × Kept)) (form : TypeForm) → elements_for es form ≡ None → is_array form ≡ false
plain-elements es (forms.Integer i) h = refl
plain-elements es forms.Bool h = refl
plain-elements es forms.Unit h = refl
plain-elements es (forms.Pointer t) h = refl
plain-elements es (forms.Array t n) h = absurd (none-some _ (sym h))
plain-elements es (forms.Function ps r) h = refl
plain-elements es (forms.Struct n p l) h = refl

module _ (es : List (TypeKey × Kept)) (k : AreKept es) where
  no_array : (i : ℕ) (e : TypeKey × Kept) → slice_get es i ≡ Some e → is_array e.1.form ≡ false → None ≡ elements_for es e.1.form → Gives es i e
  no_array i e at plain own =
      record {
        value = plain-measure (forms_in es) i e.1.form plain (form-at es i e at) ∙ ap (by_elements es e.1) (own ∙ sym (k.elements i e at));
        covered = λ x has. absurd (none-some x (own ∙ (sym (k.elements i e at) ∙ has)));
      }

  -- of the elements of an array, that aren't arrays and that are
  over_plain : (t : TypeId) (n : ℕ) (b : TypeKey × Kept) → slice_get es t.0 ≡ Some b → measure_of (forms_in es) t ≡ own_measure b.1 → for_some (measure_of (forms_in es) t) (repeated n) ≡ for_some (for_some (kept_at es t) own_measure) (spread (elements_of t n None))
  over_plain t n b at value =
      ap (λ o. for_some o (repeated n)) value ∙
      (for_some-cong (own_measure b.1) (repeated n) (spread (elements_of t n None)) (λ m. sym (spread-first t n m)) ∙
      ap (λ o. for_some (for_some (option_map (λ e. e.1) o) own_measure) (spread (elements_of t n None))) (sym at))

  over_array : (t : TypeId) (n : ℕ) (x : Elements) → x.count ≤ x.largest → measure_of (forms_in es) t ≡ for_some (for_some (kept_at es x.of) own_measure) (spread x) → for_some (measure_of (forms_in es) t) (repeated n) ≡ for_some (for_some (kept_at es x.of) own_measure) (spread (elements_of t n (Some x)))
  over_array t n x c value =
      ap (λ o. for_some o (repeated n)) value ∙
      (sym (for_some-twice (for_some (kept_at es x.of) own_measure) (spread x) (repeated n)) ∙
      for_some-cong (for_some (kept_at es x.of) own_measure) (λ m. for_some (spread x m) (repeated n)) (spread (elements_of t n (Some x))) (λ m. sym (spread-next t n x m c)))

  an_array : (i n : ℕ) (t : TypeId) (e b : TypeKey × Kept) → slice_get es i ≡ Some e → e.1.form ≡ forms.Array t n → slice_get es t.0 ≡ Some b → t.0 < i → Gives es t.0 b → (o : Option Elements) → b.1.elements ≡ o → Gives es i e
  an_array i n t e b at form there below g o has =
      let own : e.1.elements ≡ Some (elements_of t n o) = k.elements i e at ∙ (ap (elements_for es) form ∙ ap (λ p. Some (elements_of t n p)) (ap elements_in there ∙ has)) in
      record {
        value = array-measure (forms_in es) i n t below (form-at es i e at ∙ ap Some form) ∙ (over o (g.value ∙ ap (by_elements es b.1) has) has ∙ ap (by_elements es e.1) (sym own));
        covered = λ x is. covers o has x (same_Some _ _ (sym own ∙ is));
      }
    where
      over : (o : Option Elements) → measure_of (forms_in es) t ≡ by_elements es b.1 o → b.1.elements ≡ o → for_some (measure_of (forms_in es) t) (repeated n) ≡ for_some (for_some (kept_at es (elements_of t n o).of) own_measure) (spread (elements_of t n o))
      over None value is = over_plain t n b there value
      over (Some x) value is = over_array t n x (g.covered x is) value

      covers : (o : Option Elements) → b.1.elements ≡ o → (x : Elements) → elements_of t n o ≡ x → x.count ≤ x.largest
      covers None is x same = subst (λ y. y.count ≤ y.largest) same (omega arith)
      covers (Some y) is x same = subst (λ y. y.count ≤ y.largest) same (omega arith)

  by_form : (i : ℕ) (e : TypeKey × Kept) (form : TypeForm) → slice_get es i ≡ Some e → e.1.form ≡ form → ((j : ℕ) (b : TypeKey × Kept) → j < i → slice_get es j ≡ Some b → Gives es j b) → Gives es i e
  by_form i e (forms.Array t n) at same earlier =
      let below : t.0 < i = subst (NamesBelow i) same (k.lawful.before i e.1.form (form-at es i e at)) in
      let there = slice_get-get_or es t.0 e (omega (arith, below, slice_get_within es i e at)) in
      an_array i n t e _ at same there below (earlier t.0 _ below there) _ refl
  by_form i e (forms.Integer j) at same earlier = no_array i e at (ap is_array same) (ap (elements_for es) (sym same))
  by_form i e forms.Bool at same earlier = no_array i e at (ap is_array same) (ap (elements_for es) (sym same))
  by_form i e forms.Unit at same earlier = no_array i e at (ap is_array same) (ap (elements_for es) (sym same))
  by_form i e (forms.Pointer t) at same earlier = no_array i e at (ap is_array same) (ap (elements_for es) (sym same))
  by_form i e (forms.Function ps r) at same earlier = no_array i e at (ap is_array same) (ap (elements_for es) (sym same))
  by_form i e (forms.Struct m p l) at same earlier = no_array i e at (ap is_array same) (ap (elements_for es) (sym same))

  -- the types in order
  up_to : (n i : ℕ) (e : TypeKey × Kept) → i < n → slice_get es i ≡ Some e → Gives es i e
  up_to zero i e h at = absurd (omega (arith, h))
  up_to (suc n) i e h at = by_form i e e.1.form at refl (λ j b below there. up_to n j b (omega (arith, h, below)) there)

  pub measure-kept : (t : TypeId) → kept_measure es t ≡ measure_of (forms_in es) t
  measure-kept t = step (slice_get es t.0) refl
    where
      step : (o : Option (TypeKey × Kept)) → slice_get es t.0 ≡ o → kept_measure es t ≡ measure_of (forms_in es) t
      step None at =
          ap (λ o. for_some (option_map (λ e. e.1) o) (λ kept. by_elements es kept kept.elements)) at ∙
          sym (past-measure (forms_in es) t.0 (omega (arith, length-forms es, get-past es t.0 at)))
      step (Some e) at =
          ap (λ o. for_some (option_map (λ e. e.1) o) (λ kept. by_elements es kept kept.elements)) at ∙
          sym (up_to (suc t.0) t.0 e (omega arith) at).value

  -- ---- within the limit

  own-within : (i : ℕ) (e : TypeKey × Kept) (form : TypeForm) → slice_get es i ≡ Some e → e.1.form ≡ form → IfSome (measured [] form) Within
  own-within i e (forms.Integer Int8) at same = (lit≤ tt, lit≤ tt, lit≤ tt)
  own-within i e (forms.Integer Int16) at same = (lit≤ tt, lit≤ tt, lit≤ tt)
  own-within i e (forms.Integer Int32) at same = (lit≤ tt, lit≤ tt, lit≤ tt)
  own-within i e (forms.Integer Int64) at same = (lit≤ tt, lit≤ tt, lit≤ tt)
  own-within i e (forms.Integer Uint8) at same = (lit≤ tt, lit≤ tt, lit≤ tt)
  own-within i e (forms.Integer Uint16) at same = (lit≤ tt, lit≤ tt, lit≤ tt)
  own-within i e (forms.Integer Uint32) at same = (lit≤ tt, lit≤ tt, lit≤ tt)
  own-within i e (forms.Integer Uint64) at same = (lit≤ tt, lit≤ tt, lit≤ tt)
  own-within i e forms.Bool at same = (lit≤ tt, lit≤ tt, lit≤ tt)
  own-within i e forms.Unit at same = (lit≤ tt, lit≤ tt, lit≤ tt)
  own-within i e (forms.Pointer t) at same = (lit≤ tt, lit≤ tt, lit≤ tt)
  own-within i e (forms.Array t n) at same = tt
  own-within i e (forms.Function ps r) at same = (lit≤ tt, lit≤ tt, lit≤ tt)
  own-within i e (forms.Struct n p None) at same = tt
  own-within i e (forms.Struct n p (Some l)) at same = k.lawful.limited i n p l (form-at es i e at ∙ ap Some same)

  spread-all : (x : Elements) → x.count ≤ x.largest → (o : Option Measure) → IfSome o Within → IfSome (for_some o (spread x)) Within
  spread-all x c None h = tt
  spread-all x c (Some m) h = spread-within x m c h

  base-within : (x : Elements) → (o : Option (TypeKey × Kept)) → slice_get es x.of.0 ≡ o → IfSome (for_some (option_map (λ e. e.1) o) own_measure) Within
  base-within x None at = tt
  base-within x (Some b) at = own-within x.of.0 b b.1.form at refl

  by-within : (i : ℕ) (e : TypeKey × Kept) (o : Option Elements) → slice_get es i ≡ Some e → e.1.elements ≡ o → IfSome (by_elements es e.1 o) Within
  by-within i e None at has = own-within i e e.1.form at refl
  by-within i e (Some x) at has =
      spread-all x ((up_to (suc i) i e (omega arith) at).covered x has) (for_some (kept_at es x.of) own_measure) (base-within x (slice_get es x.of.0) refl)

  pub kept-within : (t : TypeId) → IfSome (kept_measure es t) Within
  kept-within t = step (slice_get es t.0) refl
    where
      step : (o : Option (TypeKey × Kept)) → slice_get es t.0 ≡ o → IfSome (for_some (option_map (λ e. e.1) o) (λ kept. by_elements es kept kept.elements)) Within
      step None at = tt
      step (Some e) at = by-within t.0 e e.1.elements at refl

  pub measure-within : (t : TypeId) → IfSome (measure_of (forms_in es) t) Within
  measure-within t = subst (λ o. IfSome o Within) (measure-kept t) (kept-within t)
