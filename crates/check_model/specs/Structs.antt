-- What stands in the tables of structs, read raw.
use Rattle.std.specs.Prelude.{ℕ, if◌then◌else◌, List}
use Rattle.tl_base.specs.declared.ids.TypeId.{TypeId}
use Rattle.tl_base.specs.declared.ids.TextId.{TextId}
use Rattle.lua_value.specs.declared.value.Value.{Value}
use Rattle.lua_value.specs.declared.value.Value.TheVariants as values
use Rattle.lua_table.specs.Heap.{table_at, found_text}
use Rattle.lua_table.specs.Metatables.{value_under, first_handler}
use Rattle.lua_table.specs.Pairs.{value_in}
use Rattle.exotype.specs.World.{StageState}
use Rattle.exotype.specs.Types.{is_struct, tables_of}

-- a struct's metamethod for an event, and nil for any other type
abbrev pub metamethod : StageState → TypeId → (event : List ℕ) → Value
metamethod w t event = if is_struct w t then value_under w.heap (tables_of w t).metamethods (found_text w.heap event) else values.Nil

-- the first struct's metamethod that isn't nil
abbrev pub metamethod_of_either : StageState → TypeId → TypeId → (event : List ℕ) → Value
metamethod_of_either w t u event = first_handler (metamethod w t event) (metamethod w u event)

abbrev pub method_at : StageState → TypeId → TextId → Value
method_at w t name = if is_struct w t then value_in (table_at w.heap (tables_of w t).methods) (values.Text name) else values.Nil

abbrev pub entries_at : StageState → TypeId → Value
entries_at w t = if is_struct w t then values.Table (tables_of w t).entries else values.Nil
