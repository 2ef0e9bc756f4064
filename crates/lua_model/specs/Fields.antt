-- What stands in a value under a key, and stores (Lua 5.1 manual, sections 2.2 and 2.8).
use Rattle.std.specs.Prelude.{[], ◌∷◌, codes, Option, if◌then◌else◌}
use Rattle.tl_base.specs.declared.ids.TableId.{TableId}
use Rattle.tl_base.specs.declared.place.Place.{Place}
use Rattle.tl_base.specs.Plan.{Do, Read, Write}
use Rattle.lua_value.specs.declared.library.LibFn.{LibFn}
use Rattle.lua_value.specs.declared.library.LibFn.TheVariants as library
use Rattle.lua_value.specs.declared.value.Value.{Value}
use Rattle.lua_value.specs.declared.value.Value.TheVariants as values
use Rattle.lua_value.specs.Values.{kind_of, is_nil}
use Rattle.lua_table.specs.Pairs.{value_in}
use Rattle.lua_table.specs.Heap.{table_at, with_stored}
use Rattle.lua_table.specs.Metatables.{handler_at}
use Rattle.lua_ops.specs.declared.fault.Fault.TheVariants as faults
use Rattle.lua_model.specs.declared.job.Job.TheVariants as jobs
use Rattle.lua_model.specs.Plans.{LuaPlan, on_one, on_all, raise}
use Rattle.lua_model.specs.Calls.{ask_library, call_library}
-- the opening tables of globals and of functions on texts, which are made first
pub use Rattle.lua_table.specs.Heap.{globals, text_functions}

-- ---- reading

-- Where the raw value is absent, the handler: a function is called with the object and the key, and any other value is
-- a further object, for which the node is entered again.
abbrev pub read_by : Value → TableId → Value → Place → Option Place → (Value → LuaPlan) → LuaPlan
read_by values.Nil table key place outer go = go values.Nil
read_by (values.Closure c) table key place outer go =
    Do (jobs.Callback c (values.Table table ∷ key ∷ []) place) (λ r. on_one r go)
read_by (values.Library f) table key place outer go =
    call_library f (values.Table table ∷ key ∷ []) place outer (λ r. on_one r go)
read_by object table key place outer go = Do (jobs.Read object key place outer) (λ r. on_one r go)

abbrev pub read_table : TableId → Value → Place → Option Place → (Value → LuaPlan) → LuaPlan
read_table table key place outer go =
    Read (λ s.
    let v = value_in (table_at s table) key in
    if is_nil v then read_by (handler_at s table (codes "__index")) table key place outer go else go v)

-- a field of a Terra value, which is no call in progress
abbrev pub read_terra : LibFn → Value → Value → Place → Option Place → (Value → LuaPlan) → LuaPlan
read_terra f object key place outer go = ask_library f (object ∷ key ∷ []) place outer (λ r. on_one r go)

-- a number makes an array type of a type, and any other key names a field
abbrev pub type_function : Value → LibFn
type_function (values.Number n) = library.ArrayType
type_function key = library.Field

-- Reads a key of a value, and goes on with what stands there. A text is read as the opening table of functions on
-- texts.
abbrev pub read : Value → Value → Place → Option Place → (Value → LuaPlan) → LuaPlan
read (values.Table t) key place outer go = read_table t key place outer go
read (values.Text t) key place outer go = read_table text_functions key place outer go
read (values.TerraFunction f) key place outer go =
    read_terra library.Field (values.TerraFunction f) key place outer go
read (values.Primitive p) key place outer go = read_terra library.Field (values.Primitive p) key place outer go
read (values.TerraType t) key place outer go = read_terra (type_function key) (values.TerraType t) key place outer go
read (values.Quote q) key place outer go = read_terra library.Field (values.Quote q) key place outer go
read (values.Symbol x) key place outer go = read_terra library.Field (values.Symbol x) key place outer go
read (values.Macro m) key place outer go = read_terra library.Field (values.Macro m) key place outer go
read (values.Global g) key place outer go = read_terra library.Field (values.Global g) key place outer go
read (values.Constant c) key place outer go = read_terra library.Field (values.Constant c) key place outer go
read object key place outer go = raise place (faults.Index (kind_of object))

-- ---- storing

-- a raw store; nil is no key
abbrev pub store_raw : TableId → Value → Value → Place → LuaPlan → LuaPlan
store_raw table key v place rest =
    if is_nil key then raise place faults.NilKey else Read (λ s. Write (with_stored s table key v) rest)

-- Where the raw value is absent, the handler: a function is called with the object, the key and the value, and any
-- other
-- value is a further object, in which the value is stored.
abbrev pub store_by : Value → TableId → Value → Value → Place → Option Place → LuaPlan → LuaPlan
store_by values.Nil table key v place outer rest = store_raw table key v place rest
store_by (values.Closure c) table key v place outer rest =
    Do (jobs.Callback c (values.Table table ∷ key ∷ v ∷ []) place) (λ r. on_all r (λ vs. rest))
store_by (values.Library f) table key v place outer rest =
    call_library f (values.Table table ∷ key ∷ v ∷ []) place outer (λ r. on_all r (λ vs. rest))
store_by object table key v place outer rest =
    Do (jobs.Store object key v place outer) (λ r. on_all r (λ vs. rest))

abbrev pub store_table : TableId → Value → Value → Place → Option Place → LuaPlan → LuaPlan
store_table table key v place outer rest =
    Read (λ s.
    if is_nil (value_in (table_at s table) key)
    then store_by (handler_at s table (codes "__newindex")) table key v place outer rest
    else store_raw table key v place rest)

-- Stores a value under a key of a value, and goes on. Tables alone take stores.
abbrev pub store : Value → Value → Value → Place → Option Place → LuaPlan → LuaPlan
store (values.Table t) key v place outer rest = store_table t key v place outer rest
store object key v place outer rest = raise place (faults.Index (kind_of object))
