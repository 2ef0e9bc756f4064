-- What is told of structs and their entries.
use Rattle.std.proofs.Common.{◌≡◌, ℕ, zero, suc, ◌<◌, Bool, true, false, List, [], ◌∷◌, ◌++◌, length, Option, Some, None, refl, sym, ap}
use Rattle.std.proofs.Common.{◌∙◌, subst, slice_get}
use Rattle.std.specs.Prelude.{◌&&◌, ◌⊎◌, is_some, nat_eq, if◌then◌else◌}
use mathlib.Core.Logic.{inl, inr}
use Rattle.std.proofs.lemmas.Bool.{and_from, and_parts, lt-ltb, or_left, or_right}
use Rattle.std.proofs.lemmas.Option.{slice_get_within}
use Rattle.tl_base.specs.declared.ids.TermId.{TermId}
use Rattle.tl_base.specs.declared.ids.TextId.{TextId}
use Rattle.tl_base.specs.declared.ids.TypeId.{TypeId}
use Rattle.terra_types.specs.declared.layout.Laid.{Laid}
use Rattle.terra_types.specs.declared.measure.Measure.{Measure}
use Rattle.terra_types.specs.declared.types.TypeForm.{TypeForm}
use Rattle.terra_types.specs.declared.types.TypeForm.TheVariants as forms
use Rattle.terra_types.specs.Layouts.{entries_of, entry_named}
use Rattle.terra_types.specs.Sizes.{size_of, measure_of, for_some}
use Rattle.terra_types.proofs.Growing.{past-measure}
use Rattle.check_cast.specs.Conversions.{form_of}
use Rattle.terra_term.specs.Stores.{Contents}
use Rattle.terra_term.specs.WellTyped.{same, has_layout, struct_form, has_entry, entry_of, entries_typed}
use Rattle.exotype.specs.World.{StageState}
use Rattle.check_model.specs.Typing.{form_in, struct_if, struct_behind}
use Rattle.check_model.specs.Expressions.{in_order, by_name}
use Rattle.check_sound.specs.Sound.{foreseen, IsThere, IsSound}
use Rattle.check_sound.proofs.Tests.{no, none-some, same-some, same-refl, get-past}
use Rattle.check_sound.proofs.Passing.{entry-lies}
use Rattle.check_sound.proofs.Worlds.{fair-of}
use Rattle.check_sound.proofs.Grows.{keeps-types-of}

-- ---- what is told of types

sized-there : (w : StageState) (t : TypeId) (n : ℕ) → size_of w.store.types t ≡ Some n → IsThere w t
sized-there w t n h = lt-ltb t.0 (length w.store.types) (by (slice_get w.store.types t.0) refl)
  where
    by : (o : Option TypeForm) → slice_get w.store.types t.0 ≡ o → t.0 < length w.store.types
    by (Some f) at = slice_get_within w.store.types t.0 f at
    by None at = absurd (none-some n (sym (ap (λ (o : Option Measure). for_some o (λ m. Some m.size))
        (past-measure w.store.types t.0 (get-past w.store.types t.0 at))) ∙ h))

pub layout-there : (w : StageState) (t : TypeId) → has_layout (foreseen w) t ≡ true → IsThere w t
layout-there w t h = by (measure_of w.store.types t) refl h
  where
    by : (o : Option Measure) → measure_of w.store.types t ≡ o → is_some o ≡ true → IsThere w t
    by None e h = absurd (no h)
    by (Some m) e h = sized-there w t m.size (ap (λ (o : Option Measure). for_some o (λ m. Some m.size)) e)

-- an entry that is found by its name
pub named-entry : (field : TextId) (ls : List Laid) (l : Laid) → entry_named field ls ≡ Some l →
    (has_entry ls l.offset l.of ≡ true) × ((i : ℕ) × (slice_get ls i ≡ Some l))
named-entry field [] l h = absurd (none-some l h)
named-entry field (x ∷ ls) l h = by (nat_eq field.0 x.field.0) h (λ z. named-entry field ls l z)
  where
    self : (n : ℕ) → nat_eq n n ≡ true
    self n = same-refl (record { 0 = n })

    by : (c : Bool) → (if c then Some x else entry_named field ls) ≡ Some l →
        (entry_named field ls ≡ Some l → (has_entry ls l.offset l.of ≡ true) × ((i : ℕ) × (slice_get ls i ≡ Some l))) →
        (has_entry (x ∷ ls) l.offset l.of ≡ true) × ((i : ℕ) × (slice_get (x ∷ ls) i ≡ Some l))
    by true h rest =
        let e : x ≡ l = same-some x l h in (
          or_left _ _ (subst (λ (y : Laid). (nat_eq y.offset l.offset && same y.of l.of) ≡ true) (sym e)
              (and_from _ _ (self l.offset) (same-refl l.of))),
          (zero, h),
        )
    by false h rest = let r = rest h in (
      or_right (nat_eq x.offset l.offset && same x.of l.of)
          (has_entry ls l.offset l.of) r.0,
      (suc r.1.0, r.1.1),
    )

-- the struct that a type is, or to which it points
abbrev pub StructFact : StageState → TypeId → TypeId → Type 0
StructFact w t s = (form_of w.store.types t ≡ forms.Pointer s) ⊎
    ((t ≡ s) × (struct_form (form_of w.store.types t) ≡ true))

if-struct : (w : StageState) (t s : TypeId) → struct_if w t ≡ Some s → (t ≡ s) × (struct_form (form_in w t) ≡ true)
if-struct w t s h = by (struct_form (form_in w t)) h
  where
    by : (c : Bool) → (if c then Some t else None) ≡ Some s → (t ≡ s) × (c ≡ true)
    by true h = (same-some t s h, refl)
    by false h = absurd (none-some s h)

pub struct-fact : (w : StageState) (t s : TypeId) (f : TypeForm) → form_of w.store.types t ≡ f →
    struct_behind w t f ≡ Some s → StructFact w t s
struct-fact w t s (forms.Pointer u) e h = inl (e ∙ ap (λ x. forms.Pointer x) (if-struct w u s h).0)
struct-fact w t s (forms.Integer i) e h = inr (if-struct w t s h)
struct-fact w t s forms.Bool e h = inr (if-struct w t s h)
struct-fact w t s forms.Unit e h = inr (if-struct w t s h)
struct-fact w t s (forms.Array u n) e h = inr (if-struct w t s h)
struct-fact w t s (forms.Function ps r) e h = inr (if-struct w t s h)
struct-fact w t s (forms.Struct n p l) e h = inr (if-struct w t s h)

-- the entries that values are for
abbrev pub IsEntry : StageState → TypeId → Option Laid → Type 0
IsEntry w of None = Unit {0}
IsEntry w of (Some l) = (entry_of (foreseen w) of l.offset l.of ≡ true) × IsThere w l.of

abbrev pub AreEntries : StageState → TypeId → List (Option Laid) → Type 0
AreEntries w of [] = Unit {0}
AreEntries w of (l ∷ ls) = IsEntry w of l × AreEntries w of ls

pub entry-at : (w : StageState) → IsSound w → (of : TypeId) (i : ℕ) (l : Laid) →
    has_entry (entries_of w.store.types of) l.offset l.of ≡ true →
    slice_get (entries_of w.store.types of) i ≡ Some l → IsEntry w of (Some l)
entry-at w sound of i l h at = (
  entry-lies (foreseen w) (foreseen w) (keeps-types-of w) sound.types sound.types (fair-of w sound).lies of l.offset
      l.of h,
  sized-there w l.of (sound.entries of i l at).size (sound.entries of i l at).is,
)

pub has-at : (ls : List Laid) (i : ℕ) (l : Laid) → slice_get ls i ≡ Some l → has_entry ls l.offset l.of ≡ true
has-at [] i l h = absurd (none-some l h)
has-at (x ∷ ls) zero l h =
    or_left _ _ (subst (λ (y : Laid). (nat_eq y.offset l.offset && same y.of l.of) ≡ true) (sym (same-some x l h))
    (and_from _ _ (same-refl (record { 0 = l.offset })) (same-refl l.of)))
has-at (x ∷ ls) (suc i) l h = or_right (nat_eq x.offset l.offset && same x.of l.of) (has_entry ls l.offset l.of)
    (has-at ls i l h)

pub ordered : (w : StageState) (of : TypeId) (ls : List Laid) (ts : List TermId) →
    ((i : ℕ) (l : Laid) → slice_get ls i ≡ Some l → IsEntry w of (Some l)) →
    AreEntries w of (in_order ls ts)
ordered w of [] ts h = tt
ordered w of (l ∷ ls) [] h = tt
ordered w of (l ∷ ls) (t ∷ ts) h = (h zero l refl, ordered w of ls ts (λ i x at. h (suc i) x at))

pub named-by : (w : StageState) → IsSound w → (of : TypeId) (fs : List TextId) →
    AreEntries w of (by_name (entries_of w.store.types of) fs)
named-by w sound of [] = tt
named-by w sound of (f ∷ fs) = (by (entry_named f (entries_of w.store.types of)) refl, named-by w sound of fs)
  where
    by : (o : Option Laid) → entry_named f (entries_of w.store.types of) ≡ o → IsEntry w of o
    by None h = tt
    by (Some l) h = let n = named-entry f (entries_of w.store.types of) l h in entry-at w sound of n.1.0 l n.0 n.1.1

pub entries-snoc : (c : Contents) (of : TypeId) (os : List ℕ) (ts : List TypeId) (o : ℕ) (t : TypeId) →
    entries_typed c of os ts ≡ true →
    entry_of c of o t ≡ true → entries_typed c of (os ++ o ∷ []) (ts ++ t ∷ []) ≡ true
entries-snoc c of [] [] o t h k = and_from _ _ k refl
entries-snoc c of (x ∷ os) (y ∷ ts) o t h k = let p = and_parts _ _ h in
    and_from _ _ p.0 (entries-snoc c of os ts o t p.1 k)
entries-snoc c of [] (y ∷ ts) o t h k = absurd (no h)
entries-snoc c of (x ∷ os) [] o t h k = absurd (no h)

-- the same variables are there after steps
