-- Calls of the library that make types, symbols and constants, and those on lists: each leaves a sound world that keeps what was there.
use Rattle.std.proofs.Common.{◌≡◌, ℕ, zero, suc, ◌<◌, true, List, [], ◌∷◌, length, Some, refl, sym, ap, ◌∙◌, slice_get}
use Rattle.std.specs.List.{list_all}
use Rattle.std.proofs.lemmas.Bool.{and_parts, ltb-true}
use Rattle.tl_base.specs.declared.ids.TypeId.{TypeId}
use Rattle.terra_types.specs.declared.types.TypeForm.TheVariants as forms
use Rattle.terra_types.specs.Making.{with_form}
use Rattle.exotype.specs.World.{StageState}
use Rattle.exotype.specs.Types.{is_type, are_types, names_types, with_pointer, with_array, with_function}
use Rattle.check_sound.specs.Sound.{IsSound}
use Rattle.check_sound.proofs.Tests.{none-some, same-some}
use Rattle.check_sound.proofs.Worlds.{fair-of}
use Rattle.library_sound.specs.Leaving.{Leaves}
use Rattle.check_sound.proofs.NewTypes.{follows-form}
use Rattle.library_sound.proofs.Writes.{leaves-itself, types-leave}
use Rattle.library_sound.proofs.Turns.{either-way}

pub pointer-leaves : (w : StageState) → IsSound w → (t : TypeId) → Leaves w (with_pointer w t)
pointer-leaves w old t =
    either-way (Leaves w) (is_type w.store.types t) _ w
    (λ h. types-leave w old (with_form w.store.types (forms.Pointer t))
    (follows-form w.store.types old.types (fair-of w old).lies (forms.Pointer t) refl
    (ltb-true t.0 (length w.store.types) h)))
    (λ h. leaves-itself w old)

pub array-leaves : (w : StageState) → IsSound w → (t : TypeId) (n : ℕ) → Leaves w (with_array w t n)
array-leaves w old t n =
    either-way (Leaves w) (is_type w.store.types t) _ w
    (λ h. types-leave w old (with_form w.store.types (forms.Array t n))
    (follows-form w.store.types old.types (fair-of w old).lies (forms.Array t n) refl
    (ltb-true t.0 (length w.store.types) h)))
    (λ h. leaves-itself w old)

each-type : (w : StageState) (ps : List TypeId) → are_types w.store.types ps ≡ true → (i : ℕ) (t : TypeId) →
    slice_get ps i ≡ Some t → t.0 < length w.store.types
each-type w [] h i t at = absurd (none-some t at)
each-type w (p ∷ ps) h zero t at =
    ltb-true t.0 (length w.store.types)
    (ap (is_type w.store.types) (sym (same-some p t at)) ∙
    (and_parts (is_type w.store.types p) (list_all (is_type w.store.types) ps) h).0)
each-type w (p ∷ ps) h (suc i) t at =
    each-type w ps (and_parts (is_type w.store.types p) (list_all (is_type w.store.types) ps) h).1 i t at

pub function-leaves : (w : StageState) → IsSound w → (ps : List TypeId) (r : TypeId) → Leaves w (with_function w ps r)
function-leaves w old ps r =
    either-way (Leaves w) (names_types w ps r) _ w
    (λ h.
    let both = and_parts (is_type w.store.types r) (are_types w.store.types ps) h in
    types-leave w old (with_form w.store.types (forms.Function ps r))
    (follows-form w.store.types old.types (fair-of w old).lies (forms.Function ps r) refl
    (each-type w ps both.1, ltb-true r.0 (length w.store.types) both.0)))
    (λ h. leaves-itself w old)
