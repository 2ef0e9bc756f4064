-- What stays of the types, whatever is made or settled.
use Rattle.std.specs.Prelude.{◌≡◌, ℕ, List, Option, Some, None, slice_get}
use Rattle.terra_types.specs.declared.layout.Layout.{Layout}
use Rattle.terra_types.specs.declared.types.TypeForm.{TypeForm}
use Rattle.terra_types.specs.declared.types.TypeForm.TheVariants as forms

-- a form stays as it is, but that a struct without a layout may get one
abbrev pub KeepsForm : (old new : TypeForm) → Type 0
KeepsForm (forms.Struct number place None) new = (layout : Option Layout) × (new ≡ forms.Struct number place layout)
KeepsForm old new = new ≡ old

-- each type has its id for ever, and keeps what it is; so what was settled stays
abbrev pub KeepsTypes : (old new : List TypeForm) → Type 0
KeepsTypes old new =
    (i : ℕ) (form : TypeForm) → slice_get old i ≡ Some form →
    (now : TypeForm) × ((slice_get new i ≡ Some now) × KeepsForm form now)
