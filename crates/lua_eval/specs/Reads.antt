-- What a value is read from under a key, and the read by it.
use Rattle.std.specs.Prelude.{Option}
use Rattle.tl_base.specs.declared.place.Place.{Place}
use Rattle.lua_value.specs.declared.library.LibFn.TheVariants.{Field}
use Rattle.lua_value.specs.declared.value.Value.{Value}
use Rattle.lua_value.specs.declared.value.Value.TheVariants as values
use Rattle.lua_value.specs.Values.{kind_of}
use Rattle.lua_ops.specs.declared.fault.Fault.TheVariants.{Index}
use Rattle.lua_model.specs.Plans.{LuaPlan, raise}
use Rattle.lua_model.specs.Fields.{text_functions, type_function, read_table, read_terra}
use Rattle.lua_eval.specs.declared.fields.Source.{Source}
use Rattle.lua_eval.specs.declared.fields.Source.TheVariants.{Table, Terra, Nothing}

abbrev pub source_of : Value → Value → Source
source_of (values.Table t) key = Table t
source_of (values.Text t) key = Table text_functions
source_of (values.TerraType t) key = Terra (type_function key)
source_of (values.TerraFunction f) key = Terra Field
source_of (values.Primitive p) key = Terra Field
source_of (values.Quote q) key = Terra Field
source_of (values.Symbol x) key = Terra Field
source_of (values.Macro m) key = Terra Field
source_of (values.Global g) key = Terra Field
source_of (values.Constant c) key = Terra Field
source_of object key = Nothing

abbrev pub read_from : Source → Value → Value → Place → Option Place → (Value → LuaPlan) → LuaPlan
read_from (Table t) object key place outer go = read_table t key place outer go
read_from (Terra f) object key place outer go = read_terra f object key place outer go
read_from Nothing object key place outer go = raise place (Index (kind_of object))
