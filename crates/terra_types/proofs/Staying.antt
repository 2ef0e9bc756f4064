-- What is there stays, whatever is made or settled.
use Rattle.std.specs.Prelude.{◌≡◌, refl, ℕ, zero, suc, IsTrue, List, [], ◌∷◌, ◌++◌, position, slice_get, slice_set, unwrap_or, Option, Some}
use Rattle.std.specs.Prelude.{None}
use Rattle.std.proofs.Common.{sym, ◌∙◌, subst, true≢false}
use Rattle.std.proofs.lemmas.Option.{none-some, slice_get_within}
use Rattle.tl_base.specs.declared.ids.TypeId.{TypeId}
use Rattle.tl_base.specs.declared.place.Place.{Place}
use Rattle.terra_types.specs.declared.layout.Layout.{Layout}
use Rattle.terra_types.specs.declared.types.TypeForm.{TypeForm}
use Rattle.terra_types.specs.declared.types.TypeForm.TheVariants as forms
use Rattle.terra_types.specs.Keeping.{KeepsForm, KeepsTypes}
use Rattle.terra_types.specs.Making.{awaits_layout, is_same, is_unsettled, new_struct_form, types_in, with_form, with_layout, with_settled}
use Rattle.terra_types.specs.Making.{with_struct}
use Rattle.terra_types.proofs.Growing.{get-left}

pub keeps_itself : (f : TypeForm) → KeepsForm f f
keeps_itself (forms.Integer i) = refl
keeps_itself forms.Bool = refl
keeps_itself forms.Unit = refl
keeps_itself (forms.Pointer t) = refl
keeps_itself (forms.Array t n) = refl
keeps_itself (forms.Function ps r) = refl
keeps_itself (forms.Struct n p None) = (None, refl)
keeps_itself (forms.Struct n p (Some l)) = refl

keeps-more : (types later : List TypeForm) → KeepsTypes types (types ++ later)
keeps-more types later i form at = (form, (get-left types later i (slice_get_within types i form at) ∙ at, keeps_itself form))

pub keeps-form : (types : List TypeForm) (form : TypeForm) → KeepsTypes types (with_form types form)
keeps-form types form = step (position (is_same form) types)
  where
    step : (o : Option ℕ) → KeepsTypes types (types_in o types form)
    step (Some place) i f at = (f, (at, keeps_itself f))
    step None i f at = keeps-more types (form ∷ []) i f at

pub keeps-struct : (types : List TypeForm) (place : Place) → KeepsTypes types (with_struct types place)
keeps-struct types place = keeps-more types (new_struct_form types place ∷ [])

-- a struct without a layout keeps what it is when it gets one
keeps_laid : (f : TypeForm) (layout : Layout) → IsTrue (awaits_layout f) → KeepsForm f (with_layout f layout)
keeps_laid (forms.Integer i) layout h = absurd (true≢false (sym h))
keeps_laid forms.Bool layout h = absurd (true≢false (sym h))
keeps_laid forms.Unit layout h = absurd (true≢false (sym h))
keeps_laid (forms.Pointer t) layout h = absurd (true≢false (sym h))
keeps_laid (forms.Array t n) layout h = absurd (true≢false (sym h))
keeps_laid (forms.Function ps r) layout h = absurd (true≢false (sym h))
keeps_laid (forms.Struct n p None) layout h = (Some layout, refl)
keeps_laid (forms.Struct n p (Some l)) layout h = absurd (true≢false (sym h))

-- a list with another element in one place
keeps-set : (types : List TypeForm) (i : ℕ) (new : TypeForm) → ((f : TypeForm) → slice_get types i ≡ Some f → KeepsForm f new) → KeepsTypes types (slice_set types i new)
keeps-set [] i new h j form at = absurd (none-some form at)
keeps-set (f ∷ types) zero new h zero form at = (new, (refl, h form at))
keeps-set (f ∷ types) zero new h (suc j) form at = (form, (at, keeps_itself form))
keeps-set (f ∷ types) (suc i) new h zero form at = (form, (at, keeps_itself form))
keeps-set (f ∷ types) (suc i) new h (suc j) form at = keeps-set types i new h j form at

pub keeps-settled : (types : List TypeForm) (t : TypeId) (layout : Option Layout) → IsTrue (is_unsettled types t) → KeepsTypes types (with_settled types t layout)
keeps-settled types t None h i form at = (form, (at, keeps_itself form))
keeps-settled types t (Some layout) h i form at =
    keeps-set types t.0 (with_layout (unwrap_or (slice_get types t.0) forms.Unit) layout)
    (λ f at. subst (λ o. KeepsForm f (with_layout (unwrap_or o forms.Unit) layout)) (sym at)
    (keeps_laid f layout (subst (λ o. IsTrue (awaits_layout (unwrap_or o forms.Unit))) at h))) i form at
