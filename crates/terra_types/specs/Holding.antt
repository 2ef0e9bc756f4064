-- What holds of the table of types and the number of structs: a view of the code, which private contracts cite.
use Rattle.std.specs.Prelude.{◌≡◌, ℕ, List, [], ◌∷◌, ◌++◌}
use Rattle.terra_types.specs.declared.key.TypeKey.{TypeKey}
use Rattle.terra_types.specs.declared.key.TypeKey.TheVariants as keys
use Rattle.terra_types.specs.declared.table.Kept.{Kept}
use Rattle.terra_types.specs.declared.types.Integer.{Integer}
use Rattle.terra_types.specs.declared.types.Integer.TheVariants.{Int8, Int16, Int32, Int64, Uint8, Uint16, Uint32, Uint64}
use Rattle.terra_types.specs.declared.types.TypeForm.{TypeForm}
use Rattle.terra_types.specs.declared.types.TypeForm.TheVariants as forms
use Rattle.terra_types.specs.Kept.{AreKept, forms_in, plain}
use Rattle.terra_types.specs.Making.{structs_in}
use Rattle.terra_types.specs.Opening.{opening_types}

pub record IsHeld (entries : List (TypeKey × Kept)) (structs : ℕ) : Type 0 where
  pub opened : (later : List TypeForm) × (forms_in entries ≡ opening_types ++ later)
  pub kept : AreKept entries
  pub counted : structs ≡ structs_in (forms_in entries)

abbrev integer_entry : Integer → TypeKey × Kept
integer_entry i = (keys.Integer i, plain (forms.Integer i))

-- the types that are there from the begin
abbrev pub opening_entries : List (TypeKey × Kept)
opening_entries =
    integer_entry Int8 ∷ integer_entry Int16 ∷ integer_entry Int32 ∷ integer_entry Int64 ∷ integer_entry Uint8 ∷
    integer_entry Uint16 ∷ integer_entry Uint32 ∷ integer_entry Uint64 ∷ (keys.Bool, plain forms.Bool) ∷
    (keys.Unit, plain forms.Unit) ∷ (keys.Pointer (record { 0 = 0 }), plain (forms.Pointer (record { 0 = 0 }))) ∷ []
