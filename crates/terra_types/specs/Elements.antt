-- What is kept of an array: a view of the code, which private contracts cite.
use Rattle.std.specs.Prelude.{ℕ, ◌*◌, ◌-◌, ◌^◌, min, max, nat_le, if◌then◌else◌, Option, Some, None}
use Rattle.tl_base.specs.declared.ids.TypeId.{TypeId}
use Rattle.terra_types.specs.declared.elements.Elements.{Elements}
use Rattle.terra_types.specs.declared.measure.Measure.{Measure}
use Rattle.terra_types.specs.Sizes.{largest_size}

-- a product, or the last number of 64 bits where it is larger
abbrev pub bounded_product : ℕ → ℕ → ℕ
bounded_product a b = min (a * b) (2 ^ 64 - 1)

-- the elements of so many of a type, where those of that type are known
abbrev pub elements_of : TypeId → ℕ → Option Elements → Elements
elements_of t n None = record { of = t; count = n; largest = n }
elements_of t n (Some x) =
    let count = bounded_product n x.count in
    record { of = x.of; count = count; largest = max count x.largest }

-- the measure of an array, where that of the elements is known: none where one of the nested arrays passes the limit
abbrev pub spread : Elements → Measure → Option Measure
spread x m =
    if nat_le (bounded_product x.largest m.size) largest_size
    then Some (record m { size = bounded_product x.count m.size })
    else None
