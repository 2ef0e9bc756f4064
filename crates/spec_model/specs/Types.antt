-- Types in Terra code, which are Lua expressions.
use Rattle.std.specs.Prelude.{if◌then◌else◌, List, [], ◌∷◌, Option, Some, None}
use Rattle.tl_base.specs.declared.ids.EnvId.{EnvId}
use Rattle.tl_base.specs.declared.ids.NodeId.{NodeId}
use Rattle.tl_base.specs.declared.ids.TypeId.{TypeId}
use Rattle.tl_base.specs.declared.place.Place.{Place}
use Rattle.tl_base.specs.Plan.{Read}
use Rattle.lua_value.specs.declared.value.Value.{Value}
use Rattle.lua_value.specs.declared.value.Value.TheVariants as values
use Rattle.lua_table.specs.Heap.{table_at}
use Rattle.tl_tree.specs.Code.{Items, place_at}
use Rattle.terra_types.specs.Opening.{unit}
use Rattle.exotype.specs.declared.fault.Fault.TheVariants as faults
use Rattle.exotype.specs.Types.{is_type}
use Rattle.spec_model.specs.Plans.{SpecPlan, raise, eval, values_in}

-- A value of Lua names a type that is there: no Lua code can make another. So no staging finds that one isn't.
abbrev pub type_there : TypeId → Place → (TypeId → SpecPlan) → SpecPlan
type_there t place go = Read (λ w. if is_type w.store.types t then go t else raise place faults.NotAType)

-- the type of a table's values: none is the unit type, and one type is that type
abbrev pub type_in : List Value → Place → (TypeId → SpecPlan) → SpecPlan
type_in [] place go = type_there unit place go
type_in (values.TerraType t ∷ []) place go = type_there t place go
type_in vs place go = raise place faults.NotAType

abbrev pub as_type : Value → Place → (TypeId → SpecPlan) → SpecPlan
as_type (values.TerraType t) place go = type_there t place go
as_type (values.Table t) place go = Read (λ w. type_in (values_in (table_at w.heap t)) place go)
as_type v place go = raise place faults.NotAType

-- evaluates a type
abbrev pub type_of : Items → NodeId → EnvId → (TypeId → SpecPlan) → SpecPlan
type_of items n env go = eval n env (λ v. as_type v (place_at items n) go)

-- a type where one is written
abbrev pub type_if_any : Items → Option NodeId → EnvId → (Option TypeId → SpecPlan) → SpecPlan
type_if_any items (Some n) env go = type_of items n env (λ t. go (Some t))
type_if_any items None env go = go None
