-- Types that come behind others: all are types still, and entries lie within their structs.
use Rattle.std.proofs.Common.{◌≡◌, ℕ, ◌+◌, ◌≤◌, false, List, [], ◌∷◌, ◌++◌, length, position, Option, Some, None, refl}
use Rattle.std.proofs.Common.{sym, ap, ◌∙◌, subst, arith, slice_get}
use Rattle.std.specs.Prelude.{unwrap_or}
use Rattle.std.proofs.lemmas.Option.{slice_get_within}
use Rattle.tl_base.specs.declared.place.Place.{Place}
use Rattle.tl_base.specs.declared.ids.TypeId.{TypeId}
use Rattle.terra_types.specs.declared.layout.Laid.{Laid}
use Rattle.terra_types.specs.declared.types.TypeForm.{TypeForm}
use Rattle.terra_types.specs.declared.types.TypeForm.TheVariants as forms
use Rattle.terra_types.specs.Keeping.{KeepsTypes}
use Rattle.terra_types.specs.Kept.{AreLawful}
use Rattle.terra_types.specs.Making.{types_in, with_form, with_struct, is_same, structs_in, new_struct_form}
use Rattle.terra_types.specs.Opening.{AreTypes, NamesBelow}
use Rattle.terra_types.specs.Layouts.{entries_in, entries_of}
use Rattle.terra_types.specs.Sizes.{size_of}
use Rattle.terra_types.proofs.Growing.{get-left}
use Rattle.terra_types.proofs.Held.{is_struct, plain-comes}
use Rattle.terra_types.proofs.Pushing.{Comes, lawful-push, where-push, Where, before, last}
use Rattle.terra_types.proofs.Structs.{structs-before, not_there, differs}
use Rattle.terra_types.proofs.Staying.{keeps_itself}
use Rattle.check_sound.proofs.Tests.{no, none-some}
use Rattle.check_sound.proofs.Shapes.{size-kept}
use Rattle.check_sound.proofs.Passing.{Lies}

-- ---- a list of types behind another one

pub record Follows (ts us : List TypeForm) : Type 0 where
  pub types : AreTypes us
  pub lies : Lies us
  pub keeps : KeepsTypes ts us

pub keeps-types : (ts : List TypeForm) → KeepsTypes ts ts
keeps-types ts i form at = (form, (at, keeps_itself form))

keeps-push : (ts : List TypeForm) (form : TypeForm) → KeepsTypes ts (ts ++ form ∷ [])
keeps-push ts form i f at =
    (f, (get-left ts (form ∷ []) i (slice_get_within ts i f at) ∙ at, keeps_itself f))

pub follows-itself : (ts : List TypeForm) → AreTypes ts → Lies ts → Follows ts ts
follows-itself ts a lies = record { types = a; lies = lies; keeps = keeps-types ts }

lawful-of : (ts : List TypeForm) → AreTypes ts → AreLawful ts
lawful-of ts a = record { alone = a.alone; before = a.before; numbered = a.numbered; limited = a.limited }

-- ---- one that comes last, without entries

module _ (ts : List TypeForm) (a : AreTypes ts) (lies : Lies ts) (form : TypeForm) (c : Comes ts form)
    (bare : entries_in form ≡ []) where
  pushed : List TypeForm
  pushed = ts ++ form ∷ []

  pushed-types : AreTypes (ts ++ form ∷ [])
  pushed-types =
      let l = lawful-push ts form (lawful-of ts a) c in
      record {
        opened = (a.opened.0 ++ form ∷ [], ap (λ (z : List TypeForm). z ++ form ∷ []) a.opened.1);
        alone = l.alone;
        before = l.before;
        numbered = l.numbered;
        limited = l.limited;
      }

  size-now : (s : TypeId) (n : ℕ) → size_of ts s ≡ Some n → size_of (ts ++ form ∷ []) s ≡ Some n
  size-now s n h = size-kept ts (ts ++ form ∷ []) (keeps-push ts form) a pushed-types s n h

  -- the entries of a type are those that it had
  entries-before : (s : TypeId) (i : ℕ) (l : Laid) → slice_get (entries_of (ts ++ form ∷ []) s) i ≡ Some l →
      slice_get (entries_of ts s) i ≡ Some l
  entries-before s i l h = by (slice_get (ts ++ form ∷ []) s.0) refl h
    where
      by : (o : Option TypeForm) → slice_get (ts ++ form ∷ []) s.0 ≡ o →
          slice_get (entries_in (unwrap_or o forms.Unit)) i ≡ Some l → slice_get (entries_of ts s) i ≡ Some l
      by None at h = absurd (none-some l h)
      by (Some f) at h = old (where-push ts form s.0 f at)
        where
          old : Where ts form s.0 f → slice_get (entries_of ts s) i ≡ Some l
          old (before lt there) = ap (λ o. slice_get (entries_in (unwrap_or o forms.Unit)) i) there ∙ h
          old (last e same) =
              absurd (none-some l (ap (λ ls. slice_get ls i) (sym bare) ∙ (ap (λ g. slice_get (entries_in g) i) same ∙ h)))

  lies-by : (s : TypeId) (l : Laid) → (n : ℕ) ×
      ((size_of ts l.of ≡ Some n) × (l.offset + n ≤ unwrap_or (size_of ts s) 0)) →
      (o : Option ℕ) → size_of ts s ≡ o →
      (n : ℕ) × ((size_of (ts ++ form ∷ []) l.of ≡ Some n) × (l.offset + n ≤ unwrap_or (size_of (ts ++ form ∷ []) s) 0))
  lies-by s l h (Some m) at = (
    h.0,
    (
      size-now l.of h.0 h.1.0,
      subst (λ o. l.offset + h.0 ≤ unwrap_or o 0) (sym (size-now s m at))
          (subst (λ o. l.offset + h.0 ≤ unwrap_or o 0) at h.1.1),
    ),
  )
  lies-by s l h None at = (
    h.0,
    (
      size-now l.of h.0 h.1.0,
      (let none : l.offset + h.0 ≤ 0 = subst (λ o. l.offset + h.0 ≤ unwrap_or o 0) at h.1.1 in omega (arith, none)),
    ),
  )

  pub follows-push : Follows ts (ts ++ form ∷ [])
  follows-push = record {
    types = pushed-types;
    lies = λ s i l h. lies-by s l (lies s i l (entries-before s i l h)) (size_of ts s) refl;
    keeps = keeps-push ts form;
  }

-- ---- a type that is no struct: it comes last where it is new

plain-bare : (form : TypeForm) → is_struct form ≡ false → entries_in form ≡ []
plain-bare (forms.Integer i) h = refl
plain-bare forms.Bool h = refl
plain-bare forms.Unit h = refl
plain-bare (forms.Pointer t) h = refl
plain-bare (forms.Array t n) h = refl
plain-bare (forms.Function ps r) h = refl
plain-bare (forms.Struct n p l) h = absurd (no (sym h))

pub follows-form : (ts : List TypeForm) → AreTypes ts → Lies ts → (form : TypeForm) → is_struct form ≡ false →
    NamesBelow (length ts) form → Follows ts (with_form ts form)
follows-form ts a lies form plain below = by (position (is_same form) ts) refl
  where
    by : (o : Option ℕ) → position (is_same form) ts ≡ o → Follows ts (types_in o ts form)
    by (Some i) at = follows-itself ts a lies
    by None at = follows-push ts a lies form (plain-comes ts form plain below at) (plain-bare form plain)

-- ---- a new struct

new-number : (ts : List TypeForm) → AreTypes ts → (place : Place) (i : ℕ) (f : TypeForm) → slice_get ts i ≡ Some f →
    is_same (new_struct_form ts place) f ≡ false
new-number ts a place i (forms.Integer j) at = refl
new-number ts a place i forms.Bool at = refl
new-number ts a place i forms.Unit at = refl
new-number ts a place i (forms.Pointer t) at = refl
new-number ts a place i (forms.Array t n) at = refl
new-number ts a place i (forms.Function ps r) at = refl
new-number ts a place i (forms.Struct m p o) at =
    differs (structs_in ts + 1) m (omega (arith, a.numbered i m p o at, structs-before ts i m p o at))

struct-comes : (ts : List TypeForm) → AreTypes ts → (place : Place) → Comes ts (new_struct_form ts place)
struct-comes ts a place = record {
  new = not_there (is_same (new_struct_form ts place)) ts (new-number ts a place);
  below = omega arith;
  numbered = λ m p l same. sym (number-of same);
  unsettled = λ m p l same. unsettled-of same;
}
  where
    number-of : {m : ℕ} {p : Place} {l : Option _} → new_struct_form ts place ≡ forms.Struct m p l → structs_in ts + 1 ≡ m
    number-of same = cc

    unsettled-of : {m : ℕ} {p : Place} {l : _} → new_struct_form ts place ≡ forms.Struct m p (Some l) → ⊥
    unsettled-of same = cc

pub follows-struct : (ts : List TypeForm) → AreTypes ts → Lies ts → (place : Place) → Follows ts (with_struct ts place)
follows-struct ts a lies place = follows-push ts a lies (new_struct_form ts place) (struct-comes ts a place) refl
