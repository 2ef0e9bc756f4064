-- Properties of types, which Lua code is asked for at most once.
use Rattle.std.specs.Prelude.{ℕ, Bool, ◌++◌, ◌==◌, ◌&&◌, List, unwrap_or}
use Rattle.std.specs.Hash as fed
use Rattle.std.specs.Map.{lookup}
use Rattle.indexmap.specs.IndexMap.{insert_entry}
use Rattle.exotype.specs.declared.property.Known.{Known}
use Rattle.exotype.specs.declared.property.Known.TheVariants.{Unasked}
use Rattle.exotype.specs.declared.property.Property.{Property}
use Rattle.exotype.specs.declared.property.Property.TheVariants.{Entries, Method}
use Rattle.exotype.specs.World.{KeptState}

-- the place of a property's variant in their order
abbrev pub rank : Property → ℕ
rank (Entries t) = 0
rank (Method t x) = 1

abbrev pub type_number : Property → ℕ
type_number (Entries t) = t.0
type_number (Method t x) = t.0

abbrev pub name_number : Property → ℕ
name_number (Entries t) = 0
name_number (Method t x) = x.0

-- two properties are the same where both are entries or both methods, of one type and under one name
abbrev pub same_property : Property → Property → Bool
same_property p q = (rank p == rank q) && (type_number p == type_number q) && (name_number p == name_number q)

-- what a hasher is fed with
abbrev pub hashed : Property → fed.HashWrites
hashed p = fed.u64 (rank p) ++ fed.u64 (type_number p) ++ fed.u64 (name_number p)

abbrev pub known_in : List (Property × Known) → Property → Known
known_in properties p = unwrap_or (lookup (same_property p) properties) Unasked

-- a property that was kept before keeps its place, and a new one goes last
abbrev pub with_known_in : List (Property × Known) → Property → Known → List (Property × Known)
with_known_in properties p known = insert_entry same_property properties p known

-- what is known of a property
abbrev pub known_of : KeptState → Property → Known
known_of kept p = known_in kept.properties p

-- what is kept once this is known of it
abbrev pub with_known : KeptState → Property → Known → KeptState
with_known kept p known = record kept { properties = with_known_in kept.properties p known }
