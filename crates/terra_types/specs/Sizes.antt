-- How many bytes a type has, and what its addresses are multiples of.
use Rattle.std.specs.Prelude.{ℕ, ◌≤◌, ◌*◌, Bool, true, false, nat_le, if◌then◌else◌, List, [], Option, Some, None, slice_get, unwrap_or}
use Rattle.tl_base.specs.declared.ids.TypeId.{TypeId}
use Rattle.terra_types.specs.declared.layout.Layout.{Layout}
use Rattle.terra_types.specs.declared.measure.Measure.{Measure}
use Rattle.terra_types.specs.declared.types.Integer.{Integer}
use Rattle.terra_types.specs.declared.types.Integer.TheVariants.{Int8, Int16, Int32, Int64, Uint8, Uint16, Uint32, Uint64}
use Rattle.terra_types.specs.Grown.{grown}
use Rattle.terra_types.specs.declared.types.TypeForm.{TypeForm}
use Rattle.terra_types.specs.declared.types.TypeForm.TheVariants as forms

-- the most bytes that a type has
abbrev pub largest_size : ℕ
largest_size = 67108864

-- what a type is; unit where there is none
abbrev pub form_at : List TypeForm → TypeId → TypeForm
form_at types t = unwrap_or (slice_get types t.0) forms.Unit

abbrev pub is_signed : Integer → Bool
is_signed Int8 = true
is_signed Int16 = true
is_signed Int32 = true
is_signed Int64 = true
is_signed Uint8 = false
is_signed Uint16 = false
is_signed Uint32 = false
is_signed Uint64 = false

abbrev pub bytes_of : Integer → ℕ
bytes_of Int8 = 1
bytes_of Int16 = 2
bytes_of Int32 = 4
bytes_of Int64 = 8
bytes_of Uint8 = 1
bytes_of Uint16 = 2
bytes_of Uint32 = 4
bytes_of Uint64 = 8

-- a measure within the limit, and of an alignment that there is
abbrev pub Within : Measure → Type 0
Within m = (m.size ≤ largest_size) × (1 ≤ m.align) × (m.align ≤ 8)

-- one within the limit
abbrev pub limited : Measure → Option Measure
limited m = if nat_le m.size largest_size then Some m else None

abbrev pub repeated : ℕ → Measure → Option Measure
repeated n m = limited (record m { size = n * m.size })

abbrev pub settled : Layout → Measure
settled l = record { size = l.size; align = l.align }

-- what follows an option that is there
abbrev pub for_some : {A B : Type 0} → Option A → (A → Option B) → Option B
for_some None go = None
for_some (Some x) go = go x

abbrev pub flat : Option (Option Measure) → Option Measure
flat None = None
flat (Some m) = m

-- the measure of a type, where those of the types before it are known; a struct has one once its layout is settled
abbrev pub measured : List (Option Measure) → TypeForm → Option Measure
measured before (forms.Integer i) = Some (record { size = bytes_of i; align = bytes_of i })
measured before forms.Bool = Some (record { size = 1; align = 1 })
measured before forms.Unit = Some (record { size = 0; align = 1 })
measured before (forms.Pointer t) = Some (record { size = 8; align = 8 })
measured before (forms.Function params result) = Some (record { size = 8; align = 8 })
measured before (forms.Struct number place layout) = for_some layout (λ l. Some (settled l))
measured before (forms.Array t n) = for_some (flat (slice_get before t.0)) (repeated n)

-- those of all types, in order
abbrev pub measures : List TypeForm → List (Option Measure)
measures types = grown measured [] types

-- the measure of a type: none where its layout isn't settled, where it is past the limit, or where there is no such type
abbrev pub measure_of : List TypeForm → TypeId → Option Measure
measure_of types t = flat (slice_get (measures types) t.0)

abbrev pub size_of : List TypeForm → TypeId → Option ℕ
size_of types t = for_some (measure_of types t) (λ m. Some m.size)

abbrev pub align_of : List TypeForm → TypeId → Option ℕ
align_of types t = for_some (measure_of types t) (λ m. Some m.align)
