-- The type codes of an image's symbols.
use Rattle.std.specs.Prelude.{ℕ, List, [], ◌∷◌}
use Rattle.terra_types.specs.declared.types.TypeForm.{TypeForm}
use Rattle.terra_types.specs.declared.types.TypeForm.TheVariants as forms
use Rattle.terra_types.specs.declared.types.Integer.{Integer}
use Rattle.terra_types.specs.declared.types.Integer.TheVariants.{Int8, Int16, Int32, Int64, Uint8, Uint16, Uint32, Uint64}
use Rattle.terra_term.specs.declared.lists.TypedName.{TypedName}
use Rattle.terra_meaning.specs.Values.{form_at}

-- the type codes of images: int8 to int64, uint8 to uint64, bool, pointers; and 0 for unit
abbrev pub integer_code : Integer → ℕ
integer_code Int8 = 1
integer_code Int16 = 2
integer_code Int32 = 3
integer_code Int64 = 4
integer_code Uint8 = 5
integer_code Uint16 = 6
integer_code Uint32 = 7
integer_code Uint64 = 8

abbrev pub type_code : TypeForm → ℕ
type_code (forms.Integer i) = integer_code i
type_code forms.Bool = 9
type_code (forms.Pointer t) = 10
type_code _ = 0

abbrev pub codes_of : List TypeForm → List TypedName → List ℕ
codes_of types [] = []
codes_of types (x ∷ xs) = type_code (form_at types x.of) ∷ codes_of types xs
