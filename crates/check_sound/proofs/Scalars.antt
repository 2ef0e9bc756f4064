-- What the forms of types say: which are there, which have a layout, and which values may be used.
use Rattle.std.proofs.Common.{◌≡◌, ℕ, ◌*◌, ◌<◌, ◌≤◌, Bool, true, false, List, [], length, Option, Some, None, refl, sym, ap, ◌∙◌, subst}
use Rattle.std.proofs.Common.{arith, slice_get, lit≤}
use Rattle.std.specs.Prelude.{is_some, unwrap_or, nat_le, nat_lt, if◌then◌else◌}
use Rattle.std.proofs.lemmas.Bool.{leb-true, le-leb, ltb-false}
use Rattle.std.proofs.lemmas.Option.{slice_get_within}
use Rattle.tl_base.specs.declared.ids.TypeId.{TypeId}
use Rattle.terra_types.specs.declared.measure.Measure.{Measure}
use Rattle.terra_types.specs.declared.types.Integer.TheVariants.{Int8, Int16, Int32, Int64, Uint8, Uint16, Uint32, Uint64}
use Rattle.terra_types.specs.declared.types.TypeForm.{TypeForm}
use Rattle.terra_types.specs.declared.types.TypeForm.TheVariants as forms
use Rattle.terra_types.specs.Opening.{AreTypes, NamesBelow, boolean}
use Rattle.terra_types.specs.Sizes.{measured, measure_of, size_of, for_some, repeated, limited, settled}
use Rattle.terra_types.proofs.Growing.{array-measure, plain-measure, past-measure, is_array}
use Rattle.check_cast.specs.Conversions.{form_of}
use Rattle.terra_term.specs.Stores.{Contents}
use Rattle.terra_term.specs.WellTyped.{same, small, pointer_form, has_layout, is_usable}
use Rattle.check_model.specs.Typing.{is_aggregate_form}
use Rattle.check_sound.proofs.Tests.{no, none-some, same-some, same-refl, get-past}

-- ---- which types are there

pub in-range : (ts : List TypeForm) (P : TypeForm → Bool) → P forms.Unit ≡ false →
    (t : TypeId) → P (form_of ts t) ≡ true → t.0 < length ts
in-range ts P other t h = by (slice_get ts t.0) refl h
  where
    by : (o : Option TypeForm) → slice_get ts t.0 ≡ o → P (unwrap_or o forms.Unit) ≡ true → t.0 < length ts
    by None at h = absurd (no (sym other ∙ h))
    by (Some f) at h = slice_get_within ts t.0 f at

pub at-form : (ts : List TypeForm) (t : TypeId) → t.0 < length ts → slice_get ts t.0 ≡ Some (form_of ts t)
at-form ts t h = by (slice_get ts t.0) refl
  where
    by : (o : Option TypeForm) → slice_get ts t.0 ≡ o → slice_get ts t.0 ≡ Some (unwrap_or o forms.Unit)
    by None at = absurd (omega (arith, h, get-past ts t.0 at))
    by (Some f) at = at

-- those with values of one word
abbrev pub is_scalar : TypeForm → Bool
is_scalar (forms.Integer i) = true
is_scalar forms.Bool = true
is_scalar (forms.Pointer t) = true
is_scalar (forms.Function ps r) = true
is_scalar _ = false

module _ (ts : List TypeForm) (a : AreTypes ts) where
  pub target-there : (p t : TypeId) → form_of ts p ≡ forms.Pointer t → t.0 < length ts
  target-there p t h =
      let within = in-range ts pointer_form refl p (ap pointer_form h) in
      let below : t.0 < p.0 = subst (NamesBelow p.0) h (a.before p.0 (form_of ts p) (at-form ts p within)) in
      omega (arith, below, within)

  pub element-there : (x t : TypeId) (n : ℕ) → form_of ts x ≡ forms.Array t n → t.0 < length ts
  element-there x t n h =
      let within = in-range ts is_array refl x (ap is_array h) in
      let below : t.0 < x.0 = subst (NamesBelow x.0) h (a.before x.0 (form_of ts x) (at-form ts x within)) in
      omega (arith, below, within)

  -- the types that are there from the begin
  pub boolean-at : slice_get ts 8 ≡ Some forms.Bool
  boolean-at = ap (λ (l : List TypeForm). slice_get l 8) a.opened.1

  pub unit-at : slice_get ts 9 ≡ Some forms.Unit
  unit-at = ap (λ (l : List TypeForm). slice_get l 9) a.opened.1

  pub text-at : slice_get ts 10 ≡ Some (forms.Pointer (record { 0 = 0 }))
  text-at = ap (λ (l : List TypeForm). slice_get l 10) a.opened.1

  pub byte-at : slice_get ts 4 ≡ Some (forms.Integer Uint8)
  byte-at = ap (λ (l : List TypeForm). slice_get l 4) a.opened.1

  pub long-at : slice_get ts 3 ≡ Some (forms.Integer Int64)
  long-at = ap (λ (l : List TypeForm). slice_get l 3) a.opened.1

  pub word-at : slice_get ts 7 ≡ Some (forms.Integer Uint64)
  word-at = ap (λ (l : List TypeForm). slice_get l 7) a.opened.1

  -- there is one bool
  pub truth-is : (t : TypeId) → form_of ts t ≡ forms.Bool → same t boolean ≡ true
  truth-is t h =
      let within = in-range ts is_scalar refl t (ap is_scalar h) in
      let e : t.0 ≡ 8 = a.alone t.0 8 forms.Bool (at-form ts t within ∙ ap (λ f. Some f) h) boolean-at in
      subst (λ x. same x boolean ≡ true) (ap (λ n. record { 0 = n }) (sym e)) (same-refl boolean)

-- ---- layouts

measured-scalar : (f : TypeForm) → is_scalar f ≡ true → small (for_some (measured [] f) (λ m. Some m.size)) ≡ true
measured-scalar (forms.Integer Int8) h = refl
measured-scalar (forms.Integer Int16) h = refl
measured-scalar (forms.Integer Int32) h = refl
measured-scalar (forms.Integer Int64) h = refl
measured-scalar (forms.Integer Uint8) h = refl
measured-scalar (forms.Integer Uint16) h = refl
measured-scalar (forms.Integer Uint32) h = refl
measured-scalar (forms.Integer Uint64) h = refl
measured-scalar forms.Bool h = refl
measured-scalar (forms.Pointer t) h = refl
measured-scalar (forms.Function ps r) h = refl
measured-scalar forms.Unit h = absurd (no h)
measured-scalar (forms.Array t n) h = absurd (no h)
measured-scalar (forms.Struct n p l) h = absurd (no h)

no-array : (f : TypeForm) → is_scalar f ≡ true → is_array f ≡ false
no-array (forms.Integer i) h = refl
no-array forms.Bool h = refl
no-array forms.Unit h = refl
no-array (forms.Pointer t) h = refl
no-array (forms.Function ps r) h = refl
no-array (forms.Array t n) h = absurd (no h)
no-array (forms.Struct n p l) h = refl

-- a scalar may be used
pub scalar-usable : (c : Contents) (t : TypeId) → is_scalar (form_of c.types t) ≡ true → is_usable c t ≡ true
scalar-usable c t h =
    let within = in-range c.types is_scalar refl t h in
    ap (λ o. small (for_some o (λ m. Some m.size)))
    (plain-measure c.types t.0 (form_of c.types t) (no-array (form_of c.types t) h) (at-form c.types t within)) ∙
    measured-scalar (form_of c.types t) h

flat-some : (f : TypeForm) → is_aggregate_form f ≡ false → (is_some (measured [] f) ≡ true) × (is_array f ≡ false)
flat-some (forms.Integer i) h = (refl, refl)
flat-some forms.Bool h = (refl, refl)
flat-some forms.Unit h = (refl, refl)
flat-some (forms.Pointer t) h = (refl, refl)
flat-some (forms.Function ps r) h = (refl, refl)
flat-some (forms.Array t n) h = absurd (no (sym h))
flat-some (forms.Struct n p l) h = absurd (no (sym h))

-- what is no aggregate has a layout
pub flat-layout : (c : Contents) (t : TypeId) → t.0 < length c.types → is_aggregate_form (form_of c.types t) ≡ false →
    has_layout c t ≡ true
flat-layout c t within h =
    let f = flat-some (form_of c.types t) h in
    ap is_some (plain-measure c.types t.0 (form_of c.types t) f.1 (at-form c.types t within)) ∙ f.0

flat-small : (f : TypeForm) → is_aggregate_form f ≡ false → small (for_some (measured [] f) (λ m. Some m.size)) ≡ true
flat-small (forms.Integer Int8) h = refl
flat-small (forms.Integer Int16) h = refl
flat-small (forms.Integer Int32) h = refl
flat-small (forms.Integer Int64) h = refl
flat-small (forms.Integer Uint8) h = refl
flat-small (forms.Integer Uint16) h = refl
flat-small (forms.Integer Uint32) h = refl
flat-small (forms.Integer Uint64) h = refl
flat-small forms.Bool h = refl
flat-small forms.Unit h = refl
flat-small (forms.Pointer t) h = refl
flat-small (forms.Function ps r) h = refl
flat-small (forms.Array t n) h = absurd (no (sym h))
flat-small (forms.Struct n p l) h = absurd (no (sym h))

pub flat-usable : (c : Contents) (t : TypeId) → t.0 < length c.types → is_aggregate_form (form_of c.types t) ≡ false →
    is_usable c t ≡ true
flat-usable c t within h =
    ap (λ o. small (for_some o (λ m. Some m.size)))
    (plain-measure c.types t.0 (form_of c.types t) (flat-some (form_of c.types t) h).1 (at-form c.types t within)) ∙
    flat-small (form_of c.types t) h

-- one that is laid out and not too wide may be used
small-by : (o : Option Measure) → is_some o ≡ true → nat_lt 128 (unwrap_or (for_some o (λ m. Some m.size)) 0) ≡ false →
    small (for_some o (λ m. Some m.size)) ≡ true
small-by None h n = absurd (no h)
small-by (Some m) h n = le-leb m.size 128 (ltb-false 128 m.size n)

pub narrow-usable : (c : Contents) (t : TypeId) → has_layout c t ≡ true →
    nat_lt 128 (unwrap_or (size_of c.types t) 0) ≡ false → is_usable c t ≡ true
narrow-usable c t h n = small-by (measure_of c.types t) h n

size-layout : (o : Option Measure) → is_some (for_some o (λ m. Some m.size)) ≡ true → is_some o ≡ true
size-layout None h = absurd (no h)
size-layout (Some m) h = refl

pub sized-layout : (c : Contents) (t : TypeId) → is_some (size_of c.types t) ≡ true → has_layout c t ≡ true
sized-layout c t h = size-layout (measure_of c.types t) h

-- ---- sizes are limited

limited-size : (x m : Measure) → limited x ≡ Some m → m.size ≤ 67108864
limited-size x m h = by (nat_le x.size 67108864) refl h
  where
    by : (b : Bool) → nat_le x.size 67108864 ≡ b → (if b then Some x else None) ≡ Some m → m.size ≤ 67108864
    by true e h = subst (λ y. y.size ≤ 67108864) (same-some x m h) (leb-true x.size 67108864 e)
    by false e h = absurd (none-some m h)

repeated-size : (o : Option Measure) (n : ℕ) (m : Measure) → for_some o (repeated n) ≡ Some m → m.size ≤ 67108864
repeated-size None n m h = absurd (none-some m h)
repeated-size (Some x) n m h = limited-size (record x { size = n * x.size }) m h

own-size : (ts : List TypeForm) → AreTypes ts → (i : ℕ) (f : TypeForm) (m : Measure) → slice_get ts i ≡ Some f →
    measured [] f ≡ Some m → m.size ≤ 67108864
own-size ts a i (forms.Integer Int8) m at h = subst (λ y. y.size ≤ 67108864) (same-some _ m h) (lit≤ tt)
own-size ts a i (forms.Integer Int16) m at h = subst (λ y. y.size ≤ 67108864) (same-some _ m h) (lit≤ tt)
own-size ts a i (forms.Integer Int32) m at h = subst (λ y. y.size ≤ 67108864) (same-some _ m h) (lit≤ tt)
own-size ts a i (forms.Integer Int64) m at h = subst (λ y. y.size ≤ 67108864) (same-some _ m h) (lit≤ tt)
own-size ts a i (forms.Integer Uint8) m at h = subst (λ y. y.size ≤ 67108864) (same-some _ m h) (lit≤ tt)
own-size ts a i (forms.Integer Uint16) m at h = subst (λ y. y.size ≤ 67108864) (same-some _ m h) (lit≤ tt)
own-size ts a i (forms.Integer Uint32) m at h = subst (λ y. y.size ≤ 67108864) (same-some _ m h) (lit≤ tt)
own-size ts a i (forms.Integer Uint64) m at h = subst (λ y. y.size ≤ 67108864) (same-some _ m h) (lit≤ tt)
own-size ts a i forms.Bool m at h = subst (λ y. y.size ≤ 67108864) (same-some _ m h) (lit≤ tt)
own-size ts a i forms.Unit m at h = subst (λ y. y.size ≤ 67108864) (same-some _ m h) (lit≤ tt)
own-size ts a i (forms.Pointer t) m at h = subst (λ y. y.size ≤ 67108864) (same-some _ m h) (lit≤ tt)
own-size ts a i (forms.Function ps r) m at h = subst (λ y. y.size ≤ 67108864) (same-some _ m h) (lit≤ tt)
own-size ts a i (forms.Array t n) m at h = absurd (none-some m h)
own-size ts a i (forms.Struct n p None) m at h = absurd (none-some m h)
own-size ts a i (forms.Struct n p (Some l)) m at h =
    subst (λ y. y.size ≤ 67108864) (same-some (settled l) m h) (a.limited i n p l at).0

size-by : (ts : List TypeForm) → AreTypes ts → (i : ℕ) (f : TypeForm) (m : Measure) → slice_get ts i ≡ Some f →
    measure_of ts (record { 0 = i }) ≡ Some m → m.size ≤ 67108864
size-by ts a i (forms.Array t n) m at h =
    repeated-size (measure_of ts t) n m (sym (array-measure ts i n t (a.before i (forms.Array t n) at) at) ∙ h)
size-by ts a i (forms.Integer x) m at h = own-size ts a i (forms.Integer x) m at
    (sym (plain-measure ts i (forms.Integer x) refl at) ∙ h)
size-by ts a i forms.Bool m at h = own-size ts a i forms.Bool m at (sym (plain-measure ts i forms.Bool refl at) ∙ h)
size-by ts a i forms.Unit m at h = own-size ts a i forms.Unit m at (sym (plain-measure ts i forms.Unit refl at) ∙ h)
size-by ts a i (forms.Pointer t) m at h = own-size ts a i (forms.Pointer t) m at
    (sym (plain-measure ts i (forms.Pointer t) refl at) ∙ h)
size-by ts a i (forms.Function ps r) m at h = own-size ts a i (forms.Function ps r) m at
    (sym (plain-measure ts i (forms.Function ps r) refl at) ∙ h)
size-by ts a i (forms.Struct n p l) m at h = own-size ts a i (forms.Struct n p l) m at
    (sym (plain-measure ts i (forms.Struct n p l) refl at) ∙ h)

pub size-limited : (ts : List TypeForm) → AreTypes ts → (t : TypeId) → unwrap_or (size_of ts t) 0 ≤ 67108864
size-limited ts a t = by (measure_of ts t) refl
  where
    there : (m : Measure) → measure_of ts t ≡ Some m → (o : Option TypeForm) → slice_get ts t.0 ≡ o → m.size ≤ 67108864
    there m h None at = absurd (none-some m (sym (past-measure ts t.0 (get-past ts t.0 at)) ∙ h))
    there m h (Some f) at = size-by ts a t.0 f m at h

    by : (o : Option Measure) → measure_of ts t ≡ o → unwrap_or (for_some o (λ m. Some m.size)) 0 ≤ 67108864
    by None h = omega arith
    by (Some m) h = there m h (slice_get ts t.0) refl
