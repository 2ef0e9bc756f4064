-- What is known of types stays where types are kept: forms, measures and entries.
use Rattle.std.proofs.Common.{◌≡◌, ℕ, zero, suc, ◌<◌, Bool, true, false, List, Option, Some, None, refl, sym, ap, ◌∙◌, arith, slice_get}
use Rattle.std.specs.Prelude.{unwrap_or}
use Rattle.tl_base.specs.declared.place.Place.{Place}
use Rattle.tl_base.specs.declared.ids.TypeId.{TypeId}
use Rattle.terra_types.specs.declared.layout.Layout.{Layout}
use Rattle.terra_types.specs.declared.measure.Measure.{Measure}
use Rattle.terra_types.specs.declared.types.TypeForm.{TypeForm}
use Rattle.terra_types.specs.declared.types.TypeForm.TheVariants as forms
use Rattle.terra_types.specs.Keeping.{KeepsForm, KeepsTypes}
use Rattle.terra_types.specs.Opening.{AreTypes}
use Rattle.terra_types.specs.Sizes.{measure_of, size_of, for_some, repeated}
use Rattle.terra_types.proofs.Growing.{array-measure, plain-measure, past-measure, is_array}
use Rattle.check_cast.specs.Conversions.{form_of}
use Rattle.check_sound.proofs.Tests.{none-some, get-past, no}

-- what is there after a form
pub form-there : (types : List TypeForm) (t : TypeId) (form : TypeForm) → slice_get types t.0 ≡ Some form →
    form_of types t ≡ form
form-there types t form h = ap (λ o. unwrap_or o forms.Unit) h

module _ (old new : List TypeForm) (k : KeepsTypes old new) where
  now-of : (P : TypeForm → Bool) (f now : TypeForm) → ((n : ℕ) (p : Place) → P (forms.Struct n p None) ≡ false) →
      P f ≡ true →
      KeepsForm f now → now ≡ f
  now-of P (forms.Integer i) now apart h e = e
  now-of P forms.Bool now apart h e = e
  now-of P forms.Unit now apart h e = e
  now-of P (forms.Pointer t) now apart h e = e
  now-of P (forms.Array t n) now apart h e = e
  now-of P (forms.Function ps r) now apart h e = e
  now-of P (forms.Struct n p None) now apart h e = absurd (no (sym (apart n p) ∙ h))
  now-of P (forms.Struct n p (Some l)) now apart h e = e

  -- a form that tells itself from unit and from a struct without a layout stays
  pub form-stays : (P : TypeForm → Bool) → P forms.Unit ≡ false →
      ((n : ℕ) (p : Place) → P (forms.Struct n p None) ≡ false) →
      (t : TypeId) → P (form_of old t) ≡ true → form_of new t ≡ form_of old t
  form-stays P other apart t h = step (slice_get old t.0) refl h
    where
      step : (o : Option TypeForm) → slice_get old t.0 ≡ o → P (unwrap_or o forms.Unit) ≡ true →
          form_of new t ≡ unwrap_or o forms.Unit
      step None at h = absurd (no (sym other ∙ h))
      step (Some f) at h =
          let found = k t.0 f at in
          form-there new t found.0 found.1.0 ∙ now-of P f found.0 apart h found.1.1

  pub stays-is : (P : TypeForm → Bool) → P forms.Unit ≡ false →
      ((n : ℕ) (p : Place) → P (forms.Struct n p None) ≡ false) →
      (t : TypeId) → P (form_of old t) ≡ true → P (form_of new t) ≡ true
  stays-is P other apart t h = ap P (form-stays P other apart t h) ∙ h

  -- a struct stays one
  now-struct : (P : TypeForm → Bool) (f now : TypeForm) →
      ((n : ℕ) (p : Place) (l : Option Layout) → P (forms.Struct n p None) ≡ true → P (forms.Struct n p l) ≡ true) →
      P f ≡ true → KeepsForm f now → P now ≡ true
  now-struct P (forms.Integer i) now more h e = ap P e ∙ h
  now-struct P forms.Bool now more h e = ap P e ∙ h
  now-struct P forms.Unit now more h e = ap P e ∙ h
  now-struct P (forms.Pointer t) now more h e = ap P e ∙ h
  now-struct P (forms.Array t n) now more h e = ap P e ∙ h
  now-struct P (forms.Function ps r) now more h e = ap P e ∙ h
  now-struct P (forms.Struct n p None) now more h e = ap P e.1 ∙ more n p e.0 h
  now-struct P (forms.Struct n p (Some l)) now more h e = ap P e ∙ h

  pub struct-stays : (P : TypeForm → Bool) → P forms.Unit ≡ false →
      ((n : ℕ) (p : Place) (l : Option Layout) → P (forms.Struct n p None) ≡ true → P (forms.Struct n p l) ≡ true) →
      (t : TypeId) → P (form_of old t) ≡ true → P (form_of new t) ≡ true
  struct-stays P other more t h = step (slice_get old t.0) refl h
    where
      step : (o : Option TypeForm) → slice_get old t.0 ≡ o → P (unwrap_or o forms.Unit) ≡ true →
          P (form_of new t) ≡ true
      step None at h = absurd (no (sym other ∙ h))
      step (Some f) at h =
          let found = k t.0 f at in
          ap P (form-there new t found.0 found.1.0) ∙ now-struct P f found.0 more h found.1.1

  -- measures
  module _ (a : AreTypes old) (b : AreTypes new) where
    repeats : (o p : Option Measure) (n : ℕ) (m : Measure) → ((x : Measure) → o ≡ Some x → p ≡ Some x) →
        for_some o (repeated n) ≡ Some m → for_some p (repeated n) ≡ Some m
    repeats None p n m each h = absurd (none-some m h)
    repeats (Some x) p n m each h = ap (λ q. for_some q (repeated n)) (each x refl) ∙ h

    plain : (i : ℕ) (m : Measure) (form now : TypeForm) → is_array form ≡ false → now ≡ form →
        slice_get old i ≡ Some form →
        slice_get new i ≡ Some now → measure_of old (record { 0 = i }) ≡ Some m →
        measure_of new (record { 0 = i }) ≡ Some m
    plain i m form now flat same at there h =
        plain-measure new i form flat (there ∙ ap Some same) ∙ (sym (plain-measure old i form flat at) ∙ h)

    by-form : (i : ℕ) (m : Measure) (form now : TypeForm) → slice_get old i ≡ Some form → slice_get new i ≡ Some now →
        KeepsForm form now →
        ((j : ℕ) (x : Measure) → j < i → measure_of old (record { 0 = j }) ≡ Some x →
        measure_of new (record { 0 = j }) ≡ Some x) →
        measure_of old (record { 0 = i }) ≡ Some m → measure_of new (record { 0 = i }) ≡ Some m
    by-form i m (forms.Integer j) now at there e earlier h = plain i m (forms.Integer j) now refl e at there h
    by-form i m forms.Bool now at there e earlier h = plain i m forms.Bool now refl e at there h
    by-form i m forms.Unit now at there e earlier h = plain i m forms.Unit now refl e at there h
    by-form i m (forms.Pointer t) now at there e earlier h = plain i m (forms.Pointer t) now refl e at there h
    by-form i m (forms.Array t n) now at there e earlier h =
        let below : t.0 < i = a.before i (forms.Array t n) at in
        array-measure new i n t below (there ∙ ap Some e) ∙
        repeats (measure_of old t) (measure_of new t) n m (λ x g. earlier t.0 x below g)
        (sym (array-measure old i n t below at) ∙ h)
    by-form i m (forms.Function ps r) now at there e earlier h = plain i m (forms.Function ps r) now refl e at there h
    by-form i m (forms.Struct n p None) now at there e earlier h =
        absurd (none-some m (sym (plain-measure old i (forms.Struct n p None) refl at) ∙ h))
    by-form i m (forms.Struct n p (Some l)) now at there e earlier h =
        plain i m (forms.Struct n p (Some l)) now refl e at there h

    with-form : (i : ℕ) (m : Measure) →
        ((j : ℕ) (x : Measure) → j < i → measure_of old (record { 0 = j }) ≡ Some x →
        measure_of new (record { 0 = j }) ≡ Some x) →
        measure_of old (record { 0 = i }) ≡ Some m → (o : Option TypeForm) → slice_get old i ≡ o →
        measure_of new (record { 0 = i }) ≡ Some m
    with-form i m earlier g None at = absurd (none-some m (sym (past-measure old i (get-past old i at)) ∙ g))
    with-form i m earlier g (Some form) at =
        let found = k i form at in
        by-form i m form found.0 at found.1.0 found.1.1 earlier g

    up-to : (n i : ℕ) (m : Measure) → i < n → measure_of old (record { 0 = i }) ≡ Some m →
        measure_of new (record { 0 = i }) ≡ Some m
    up-to zero i m h g = absurd (omega (arith, h))
    up-to (suc n) i m h g = with-form i m (λ j x less q. up-to n j x (omega (arith, h, less)) q) g
        (slice_get old i) refl

    pub measure-kept : (t : TypeId) (m : Measure) → measure_of old t ≡ Some m → measure_of new t ≡ Some m
    measure-kept t m h = up-to (suc t.0) t.0 m (omega arith) h

    pub size-kept : (t : TypeId) (n : ℕ) → size_of old t ≡ Some n → size_of new t ≡ Some n
    size-kept t n h = step (measure_of old t) refl h
      where
        step : (o : Option Measure) → measure_of old t ≡ o → for_some o (λ m. Some m.size) ≡ Some n →
            size_of new t ≡ Some n
        step None at h = absurd (none-some n h)
        step (Some m) at h = ap (λ o. for_some o (λ m. Some m.size)) (measure-kept t m at) ∙ h
