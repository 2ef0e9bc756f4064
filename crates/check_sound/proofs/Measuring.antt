-- Measures are within the limits, and the layout of entries is one in which each entry lies.
use Rattle.std.proofs.Common.{◌≡◌, ℕ, zero, suc, ◌+◌, ◌*◌, ◌<◌, ◌≤◌, Bool, true, false, if◌then◌else◌, List, [], ◌∷◌, Option, Some, None}
use Rattle.std.proofs.Common.{refl, sym, ap, ◌∙◌, subst, arith, lit≤, slice_get}
use Rattle.std.specs.Prelude.{max, nat_le}
use Rattle.std.proofs.Math.Nat.{le-max_left}
use Rattle.std.proofs.lemmas.Bool.{leb-true}
use Rattle.tl_base.specs.declared.ids.TypeId.{TypeId}
use Rattle.terra_types.specs.declared.layout.Entry.{Entry}
use Rattle.terra_types.specs.declared.layout.Laid.{Laid}
use Rattle.terra_types.specs.declared.layout.Layout.{Layout}
use Rattle.terra_types.specs.declared.measure.Measure.{Measure}
use Rattle.terra_types.specs.declared.types.Integer.TheVariants.{Int8, Int16, Int32, Int64, Uint8, Uint16, Uint32, Uint64}
use Rattle.terra_types.specs.declared.types.TypeForm.{TypeForm}
use Rattle.terra_types.specs.declared.types.TypeForm.TheVariants as forms
use Rattle.terra_types.specs.Opening.{AreTypes}
use Rattle.terra_types.specs.Layouts.{begun, layout_of, may_stand, placed, rounded, rounded_up, with_entry}
use Rattle.terra_types.specs.Sizes.{Within, for_some, largest_size, limited, measure_of, measured, repeated, settled, size_of}
use Rattle.terra_types.proofs.Growing.{array-measure, plain-measure, past-measure}
use Rattle.terra_types.proofs.Pushing.{where-push, Where, before, last}
use Rattle.check_sound.proofs.Tests.{none-some, same-some, get-past}

-- ---- measures

limited-within : (x m : Measure) → (1 ≤ x.align) × (x.align ≤ 8) → limited x ≡ Some m → Within m
limited-within x m a h = by (nat_le x.size largest_size) refl h
  where
    by : (b : Bool) → nat_le x.size largest_size ≡ b → (if b then Some x else None) ≡ Some m → Within m
    by true e h = subst Within (same-some x m h) (leb-true x.size largest_size e, a.0, a.1)
    by false e h = absurd (none-some m h)

module _ (ts : List TypeForm) (a : AreTypes ts) where
  own-within : (i : ℕ) (f : TypeForm) (m : Measure) → slice_get ts i ≡ Some f → measured [] f ≡ Some m → Within m
  own-within i (forms.Integer Int8) m at h = subst Within (same-some _ m h) (lit≤ tt, lit≤ tt, lit≤ tt)
  own-within i (forms.Integer Int16) m at h = subst Within (same-some _ m h) (lit≤ tt, lit≤ tt, lit≤ tt)
  own-within i (forms.Integer Int32) m at h = subst Within (same-some _ m h) (lit≤ tt, lit≤ tt, lit≤ tt)
  own-within i (forms.Integer Int64) m at h = subst Within (same-some _ m h) (lit≤ tt, lit≤ tt, lit≤ tt)
  own-within i (forms.Integer Uint8) m at h = subst Within (same-some _ m h) (lit≤ tt, lit≤ tt, lit≤ tt)
  own-within i (forms.Integer Uint16) m at h = subst Within (same-some _ m h) (lit≤ tt, lit≤ tt, lit≤ tt)
  own-within i (forms.Integer Uint32) m at h = subst Within (same-some _ m h) (lit≤ tt, lit≤ tt, lit≤ tt)
  own-within i (forms.Integer Uint64) m at h = subst Within (same-some _ m h) (lit≤ tt, lit≤ tt, lit≤ tt)
  own-within i forms.Bool m at h = subst Within (same-some _ m h) (lit≤ tt, lit≤ tt, lit≤ tt)
  own-within i forms.Unit m at h = subst Within (same-some _ m h) (lit≤ tt, lit≤ tt, lit≤ tt)
  own-within i (forms.Pointer t) m at h = subst Within (same-some _ m h) (lit≤ tt, lit≤ tt, lit≤ tt)
  own-within i (forms.Function ps r) m at h = subst Within (same-some _ m h) (lit≤ tt, lit≤ tt, lit≤ tt)
  own-within i (forms.Array t n) m at h = absurd (none-some m h)
  own-within i (forms.Struct n p None) m at h = absurd (none-some m h)
  own-within i (forms.Struct n p (Some l)) m at h = subst Within (same-some (settled l) m h) (a.limited i n p l at)

  repeated-within : (o : Option Measure) (n : ℕ) (m : Measure) → ((x : Measure) → o ≡ Some x → Within x) →
      for_some o (repeated n) ≡ Some m → Within m
  repeated-within None n m each h = absurd (none-some m h)
  repeated-within (Some x) n m each h = let w = each x refl in limited-within (record x { size = n * x.size }) m
      (w.1, w.2) h

  by-form : (i : ℕ) (f : TypeForm) (m : Measure) → slice_get ts i ≡ Some f →
      ((j : ℕ) (x : Measure) → j < i → measure_of ts (record { 0 = j }) ≡ Some x → Within x) →
      measure_of ts (record { 0 = i }) ≡ Some m → Within m
  by-form i (forms.Array t n) m at earlier h =
      let below : t.0 < i = a.before i (forms.Array t n) at in
      repeated-within (measure_of ts t) n m (λ x e. earlier t.0 x below e) (sym (array-measure ts i n t below at) ∙ h)
  by-form i (forms.Integer x) m at earlier h =
      own-within i (forms.Integer x) m at (sym (plain-measure ts i (forms.Integer x) refl at) ∙ h)
  by-form i forms.Bool m at earlier h = own-within i forms.Bool m at (sym (plain-measure ts i forms.Bool refl at) ∙ h)
  by-form i forms.Unit m at earlier h = own-within i forms.Unit m at (sym (plain-measure ts i forms.Unit refl at) ∙ h)
  by-form i (forms.Pointer t) m at earlier h =
      own-within i (forms.Pointer t) m at (sym (plain-measure ts i (forms.Pointer t) refl at) ∙ h)
  by-form i (forms.Function ps r) m at earlier h =
      own-within i (forms.Function ps r) m at (sym (plain-measure ts i (forms.Function ps r) refl at) ∙ h)
  by-form i (forms.Struct n p l) m at earlier h =
      own-within i (forms.Struct n p l) m at (sym (plain-measure ts i (forms.Struct n p l) refl at) ∙ h)

  by-place : (i : ℕ) (m : Measure) → ((j : ℕ) (x : Measure) → j < i → measure_of ts (record { 0 = j }) ≡ Some x → Within x) →
      measure_of ts (record { 0 = i }) ≡ Some m → (o : Option TypeForm) → slice_get ts i ≡ o → Within m
  by-place i m earlier h None at = absurd (none-some m (sym (past-measure ts i (get-past ts i at)) ∙ h))
  by-place i m earlier h (Some f) at = by-form i f m at earlier h

  up-to : (n i : ℕ) (m : Measure) → i < n → measure_of ts (record { 0 = i }) ≡ Some m → Within m
  up-to zero i m lt h = absurd (omega (arith, lt))
  up-to (suc n) i m lt h =
      by-place i m (λ j x less e. up-to n j x (omega (arith, lt, less)) e) h (slice_get ts i) refl

  pub measure-within : (t : TypeId) (m : Measure) → measure_of ts t ≡ Some m → Within m
  measure-within t m h = up-to (suc t.0) t.0 m (omega arith) h

  -- ---- layouts

  rounded-least : (n a : ℕ) → 1 ≤ a → n ≤ rounded n a
  rounded-least n a h = omega (arith, h)

  max-most : (a b c : ℕ) → a ≤ c → b ≤ c → max a b ≤ c
  max-most a b c h k = omega (arith, h, k)

  -- each entry lies within what is laid out
  pub record Laying (l : Layout) : Type 0 where
    pub entries : (i : ℕ) (x : Laid) → slice_get l.entries i ≡ Some x →
        (n : ℕ) × ((size_of ts x.of ≡ Some n) × (x.offset + n ≤ l.size))
    pub least : 1 ≤ l.align
    pub most : l.align ≤ 8

  begun-lies : Laying begun
  begun-lies = record { entries = λ i x at. absurd (none-some x at); least = omega arith; most = omega arith }

  entry-lies : (l : Layout) (e : Entry) (m : Measure) → Laying l → measure_of ts e.of ≡ Some m → Laying (with_entry l e m)
  entry-lies l e m h is =
      let w = measure-within e.of m is in
      let up = rounded-least l.size m.align w.1 in
      let x : Laid = record { field = e.field; offset = rounded l.size m.align; of = e.of } in
      record {
        entries = λ i y at. by i y (where-push l.entries x i y at) up;
        least = omega (arith, h.least, le-max_left l.align m.align);
        most = max-most l.align m.align 8 h.most w.2;
      }
    where
      by : (i : ℕ) (y : Laid) →
          Where l.entries (record { field = e.field; offset = rounded l.size m.align; of = e.of }) i y →
          l.size ≤ rounded l.size m.align →
          (n : ℕ) × ((size_of ts y.of ≡ Some n) × (y.offset + n ≤ rounded l.size m.align + m.size))
      by i y (before lt at) up = let f = h.entries i y at in (f.0, (f.1.0, omega (arith, f.1.1, up)))
      by i y (last same laid) up =
          subst (λ z. (n : ℕ) × ((size_of ts z.of ≡ Some n) × (z.offset + n ≤ rounded l.size m.align + m.size))) laid
          (m.size, (ap (λ o. for_some o (λ m. Some m.size)) is, omega arith))

  all-lie : (l k : Layout) (es : List Entry) → Laying l → placed ts l es ≡ Some k → Laying k
  all-lie l k [] h e = subst Laying (same-some l k e) h
  all-lie l k (x ∷ es) h e = by (λ m lying e. all-lie (with_entry l x m) k es lying e) (measure_of ts x.of) refl e
    where
      by : ((m : Measure) → Laying (with_entry l x m) → placed ts (with_entry l x m) es ≡ Some k → Laying k) →
          (o : Option Measure) → measure_of ts x.of ≡ o → for_some o (λ m. placed ts (with_entry l x m) es) ≡ Some k →
          Laying k
      by rest None is e = absurd (none-some k e)
      by rest (Some m) is e = rest m (entry-lies l x m h is) e

  -- a layout that is within the limits
  pub record Lawful (l : Layout) : Type 0 where
    pub lies : Laying l
    pub within : Within (settled l)

  rounded-lies : (l k : Layout) → Laying l → rounded_up l ≡ Some k → Lawful k
  rounded-lies l k h e = by (nat_le (rounded l.size l.align) largest_size) refl e
    where
      up : l.size ≤ rounded l.size l.align
      up = rounded-least l.size l.align h.least

      by : (b : Bool) → nat_le (rounded l.size l.align) largest_size ≡ b →
          (if b then Some (record l { size = rounded l.size l.align }) else None) ≡ Some k → Lawful k
      by true t e = subst Lawful (same-some (record l { size = rounded l.size l.align }) k e) (record {
        lies = record {
          entries = λ i x at. let f = h.entries i x at in (f.0, (f.1.0, omega (arith, f.1.1, up)));
          least = h.least;
          most = h.most;
        };
        within = (leb-true (rounded l.size l.align) largest_size t, h.least, h.most);
      })
      by false t e = absurd (none-some k e)

  pub layout-lawful : (es : List Entry) (k : Layout) → layout_of ts es ≡ Some k → Lawful k
  layout-lawful es k e = by (may_stand ts es) e
    where
      up : (o : Option Layout) → placed ts begun es ≡ o → for_some o rounded_up ≡ Some k → Lawful k
      up None is e = absurd (none-some k e)
      up (Some l) is e = rounded-lies l k (all-lie begun l es begun-lies is) e

      by : (b : Bool) → (if b then for_some (placed ts begun es) rounded_up else None) ≡ Some k → Lawful k
      by true e = up (placed ts begun es) refl e
      by false e = absurd (none-some k e)
