-- What reads and stores fields does the same where what it goes on with does.
use Rattle.std.specs.Prelude.{[], ◌∷◌, codes, Option}
use Rattle.tl_base.specs.declared.ids.TableId.{TableId}
use Rattle.tl_base.specs.declared.place.Place.{Place}
use Rattle.lua_value.specs.declared.library.LibFn.{LibFn}
use Rattle.lua_value.specs.declared.library.LibFn.TheVariants as library
use Rattle.lua_value.specs.declared.value.Value.{Value}
use Rattle.lua_value.specs.declared.value.Value.TheVariants as values
use Rattle.lua_value.specs.Values.{kind_of, is_nil}
use Rattle.lua_table.specs.Pairs.{value_in}
use Rattle.lua_table.specs.Heap.{table_at}
use Rattle.lua_table.specs.Metatables.{handler_at}
use Rattle.lua_ops.specs.declared.fault.Fault.TheVariants as faults
use Rattle.lua_model.specs.declared.job.Job.TheVariants as jobs
use Rattle.lua_model.specs.Plans.{LuaPlan}
use Rattle.lua_model.specs.Fields.{text_functions, type_function, read_by, read_table, read_terra, read, store_raw, store_by, store_table}
use Rattle.lua_model.specs.Fields.{store}
use Rattle.lua_alike.proofs.PlansAlike.{Two, Same, if_same, do_same, reading_same, writing_same, on_one_same, on_all_same, raise_same}
use Rattle.lua_alike.proofs.CallsAlike.{ask_library_same, call_library_same}

-- ---- reading

read_by_same : {two : Two} (handler : Value) (table : TableId) (key : Value) (place : Place) (outer : Option Place)
    {go goes : Value → LuaPlan} → ((v : Value) → Same two (go v) (goes v))
    → Same two (read_by handler table key place outer go) (read_by handler table key place outer goes)
read_by_same values.Nil table key place outer h = h values.Nil
read_by_same (values.Closure c) table key place outer h =
    do_same (jobs.Callback c (values.Table table ∷ key ∷ []) place) tt (λ r. on_one_same r h)
read_by_same (values.Library f) table key place outer h =
    call_library_same f (values.Table table ∷ key ∷ []) place outer (λ r. on_one_same r h)
read_by_same object table key place outer h = do_same (jobs.Read object key place outer) tt (λ r. on_one_same r h)

read_table_same : {two : Two} (table : TableId) (key : Value) (place : Place) (outer : Option Place) {go goes : Value → LuaPlan}
    → ((v : Value) → Same two (go v) (goes v)) → Same two (read_table table key place outer go) (read_table table key place outer goes)
read_table_same table key place outer h =
    reading_same (λ s.
    if_same (is_nil (value_in (table_at s table) key)) (read_by_same (handler_at s table (codes "__index")) table key place outer h)
    (h (value_in (table_at s table) key)))

read_terra_same : {two : Two} (f : LibFn) (object key : Value) (place : Place) (outer : Option Place) {go goes : Value → LuaPlan}
    → ((v : Value) → Same two (go v) (goes v))
    → Same two (read_terra f object key place outer go) (read_terra f object key place outer goes)
read_terra_same f object key place outer h = ask_library_same f (object ∷ key ∷ []) place outer (λ r. on_one_same r h)

pub read_same : {two : Two} (object key : Value) (place : Place) (outer : Option Place) {go goes : Value → LuaPlan}
    → ((v : Value) → Same two (go v) (goes v)) → Same two (read object key place outer go) (read object key place outer goes)
read_same (values.Table t) key place outer h = read_table_same t key place outer h
read_same (values.Text t) key place outer h = read_table_same text_functions key place outer h
read_same (values.TerraFunction f) key place outer h = read_terra_same library.Field (values.TerraFunction f) key place outer h
read_same (values.Primitive p) key place outer h = read_terra_same library.Field (values.Primitive p) key place outer h
read_same (values.TerraType t) key place outer h = read_terra_same (type_function key) (values.TerraType t) key place outer h
read_same (values.Quote q) key place outer h = read_terra_same library.Field (values.Quote q) key place outer h
read_same (values.Symbol x) key place outer h = read_terra_same library.Field (values.Symbol x) key place outer h
read_same (values.Macro m) key place outer h = read_terra_same library.Field (values.Macro m) key place outer h
read_same (values.Global g) key place outer h = read_terra_same library.Field (values.Global g) key place outer h
read_same (values.Constant c) key place outer h = read_terra_same library.Field (values.Constant c) key place outer h
read_same object key place outer h = raise_same place (faults.Index (kind_of object))

-- ---- storing

pub store_raw_same : {two : Two} (table : TableId) (key v : Value) (place : Place) {rest rests : LuaPlan} → Same two rest rests
    → Same two (store_raw table key v place rest) (store_raw table key v place rests)
store_raw_same table key v place k =
    if_same (is_nil key) (raise_same place faults.NilKey) (reading_same (λ s. writing_same k))

store_by_same : {two : Two} (handler : Value) (table : TableId) (key v : Value) (place : Place) (outer : Option Place)
    {rest rests : LuaPlan} → Same two rest rests
    → Same two (store_by handler table key v place outer rest) (store_by handler table key v place outer rests)
store_by_same values.Nil table key v place outer k = store_raw_same table key v place k
store_by_same (values.Closure c) table key v place outer k =
    do_same (jobs.Callback c (values.Table table ∷ key ∷ v ∷ []) place) tt (λ r. on_all_same r (λ vs. k))
store_by_same (values.Library f) table key v place outer k =
    call_library_same f (values.Table table ∷ key ∷ v ∷ []) place outer (λ r. on_all_same r (λ vs. k))
store_by_same object table key v place outer k =
    do_same (jobs.Store object key v place outer) tt (λ r. on_all_same r (λ vs. k))

store_table_same : {two : Two} (table : TableId) (key v : Value) (place : Place) (outer : Option Place) {rest rests : LuaPlan}
    → Same two rest rests → Same two (store_table table key v place outer rest) (store_table table key v place outer rests)
store_table_same table key v place outer k =
    reading_same (λ s.
    if_same (is_nil (value_in (table_at s table) key))
    (store_by_same (handler_at s table (codes "__newindex")) table key v place outer k) (store_raw_same table key v place k))

pub store_same : {two : Two} (object key v : Value) (place : Place) (outer : Option Place) {rest rests : LuaPlan}
    → Same two rest rests → Same two (store object key v place outer rest) (store object key v place outer rests)
store_same (values.Table t) key v place outer k = store_table_same t key v place outer k
store_same object key v place outer k = raise_same place (faults.Index (kind_of object))
