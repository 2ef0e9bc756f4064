-- Reads and stores, by what a value is read from and by what a handler is.
use Rattle.std.proofs.Common.{◌≡◌, ℕ, List, true, false, refl, sym, ap, ◌∙◌, Option}
use Rattle.std.specs.Prelude.{codes}
use Rattle.tl_base.specs.declared.ids.ClosureId.{ClosureId}
use Rattle.tl_base.specs.declared.ids.TableId.{TableId}
use Rattle.tl_base.specs.declared.place.Place.{Place}
use Rattle.tl_base.specs.Plan.{Do, Read, Write}
use Rattle.tl_tree.specs.Code.{Items}
use Rattle.lua_value.specs.declared.library.LibFn.{LibFn}
use Rattle.lua_value.specs.declared.value.Value.{Value}
use Rattle.lua_value.specs.declared.value.Value.TheVariants as values
use Rattle.lua_value.specs.Values.{kind_of, is_nil}
use Rattle.lua_table.specs.LuaState.{LuaState}
use Rattle.lua_table.specs.Heap.{table_at, with_stored}
use Rattle.lua_table.specs.Metatables.{handler_at}
use Rattle.lua_table.specs.Pairs.{value_in}
use Rattle.lua_ops.specs.declared.fault.Fault.TheVariants.{Index, NilKey}
use Rattle.lua_model.specs.declared.job.Job.TheVariants as jobs
use Rattle.lua_model.specs.Plans.{LuaPlan, give, fell, on_one, on_all, raise}
use Rattle.lua_model.specs.Fields.{read, read_by, read_table, store, store_by, store_raw, store_table}
use Rattle.lua_eval.specs.declared.fields.Source.{Source}
use Rattle.lua_eval.specs.declared.frame.LuaFrame.{LuaFrame}
use Rattle.lua_eval.specs.Reads.{source_of, read_from}
use Rattle.lua_eval.specs.Steps.{LuaStep, Goes}
use Rattle.lua_eval.proofs.Below.{moved, chosen}

-- ---- what a value is read from

pub read_is : (object key : Value) (place : Place) (outer : Option Place) (go : Value → LuaPlan)
    → read object key place outer go ≡ read_from (source_of object key) object key place outer go
read_is (values.Table t) key place outer go = refl
read_is (values.Text t) key place outer go = refl
read_is (values.TerraType t) key place outer go = refl
read_is (values.TerraFunction f) key place outer go = refl
read_is (values.Primitive p) key place outer go = refl
read_is (values.Quote q) key place outer go = refl
read_is (values.Symbol x) key place outer go = refl
read_is (values.Macro m) key place outer go = refl
read_is (values.Global g) key place outer go = refl
read_is (values.Constant c) key place outer go = refl
read_is object key place outer go = refl

pub read_known : (object key : Value) (place : Place) (outer : Option Place) (source known : Source)
    → source ≡ source_of object key → source ≡ known → read object key place outer give ≡ read_from known object key place outer give
read_known object key place outer source known is to =
    read_is object key place outer give
    ∙ ap (λ (x : Source). read_from x object key place outer give) (sym is ∙ to)

-- ---- by what a handler is

pub read_by_object : (v : Value) (table : TableId) (key : Value) (place : Place) (outer : Option Place) (go : Value → LuaPlan)
    → (v ≡ values.Nil → ⊥) → ((c : ClosureId) → v ≡ values.Closure c → ⊥) → ((f : LibFn) → v ≡ values.Library f → ⊥)
    → read_by v table key place outer go ≡ Do (jobs.Read v key place outer) (λ r. on_one r go)
read_by_object values.Nil table key place outer go not_nil not_closure not_library = absurd (not_nil refl)
read_by_object (values.Closure c) table key place outer go not_nil not_closure not_library = absurd (not_closure c refl)
read_by_object (values.Library f) table key place outer go not_nil not_closure not_library = absurd (not_library f refl)
read_by_object v table key place outer go not_nil not_closure not_library = refl

pub store_by_object : (v : Value) (table : TableId) (key w : Value) (place : Place) (outer : Option Place) (rest : LuaPlan)
    → (v ≡ values.Nil → ⊥) → ((c : ClosureId) → v ≡ values.Closure c → ⊥) → ((f : LibFn) → v ≡ values.Library f → ⊥)
    → store_by v table key w place outer rest ≡ Do (jobs.Store v key w place outer) (λ r. on_all r (λ vs. rest))
store_by_object values.Nil table key w place outer rest not_nil not_closure not_library = absurd (not_nil refl)
store_by_object (values.Closure c) table key w place outer rest not_nil not_closure not_library = absurd (not_closure c refl)
store_by_object (values.Library f) table key w place outer rest not_nil not_closure not_library = absurd (not_library f refl)
store_by_object v table key w place outer rest not_nil not_closure not_library = refl

-- what takes no stores
pub not_stored : (v key w : Value) (place : Place) (outer : Option Place) (rest : LuaPlan)
    → ((t : TableId) → v ≡ values.Table t → ⊥) → store v key w place outer rest ≡ raise place (Index (kind_of v))
not_stored (values.Table t) key w place outer rest not_table = absurd (not_table t refl)
not_stored v key w place outer rest not_table = refl

-- ---- tables

-- a read where nothing stands under the key
pub absent_read : (items : Items) (fs fs2 : List LuaFrame) (table : TableId) (key handler : Value) (place : Place) (outer : Option Place)
    (s s2 : LuaState) (left left2 : ℕ) (step : LuaStep)
    → is_nil (value_in (table_at s table) key) ≡ true → handler ≡ handler_at s table (codes "__index")
    → Goes items fs (read_by handler table key place outer give) s left fs2 step s2 left2
    → Goes items fs (read_table table key place outer give) s left fs2 step s2 left2
absent_read items fs fs2 table key handler place outer s s2 left left2 step absent is g =
    let v = value_in (table_at s table) key in
    let event = handler_at s table (codes "__index") in
    chosen items fs fs2 (is_nil v) true (read_by event table key place outer give) (give v) s s2 left left2 step absent
    (moved items fs fs2 (read_by event table key place outer give) (read_by handler table key place outer give) s s s2 left left2 step
    (ap (λ (h : Value). read_by h table key place outer give) (sym is)) refl g)

-- the same for stores
pub absent_store : (items : Items) (fs fs2 : List LuaFrame) (table : TableId) (key w handler : Value) (place : Place) (outer : Option Place)
    (s s2 : LuaState) (left left2 : ℕ) (step : LuaStep)
    → is_nil (value_in (table_at s table) key) ≡ true → handler ≡ handler_at s table (codes "__newindex")
    → Goes items fs (store_by handler table key w place outer fell) s left fs2 step s2 left2
    → Goes items fs (store_table table key w place outer fell) s left fs2 step s2 left2
absent_store items fs fs2 table key w handler place outer s s2 left left2 step absent is g =
    let v = value_in (table_at s table) key in
    let event = handler_at s table (codes "__newindex") in
    chosen items fs fs2 (is_nil v) true (store_by event table key w place outer fell) (store_raw table key w place fell)
    s s2 left left2 step absent
    (moved items fs fs2 (store_by event table key w place outer fell) (store_by handler table key w place outer fell) s s s2 left left2 step
    (ap (λ (h : Value). store_by h table key w place outer fell) (sym is)) refl g)

pub present_store : (items : Items) (fs fs2 : List LuaFrame) (table : TableId) (key w : Value) (place : Place) (outer : Option Place)
    (s s2 : LuaState) (left left2 : ℕ) (step : LuaStep)
    → is_nil (value_in (table_at s table) key) ≡ false
    → Goes items fs (store_raw table key w place fell) s left fs2 step s2 left2
    → Goes items fs (store_table table key w place outer fell) s left fs2 step s2 left2
present_store items fs fs2 table key w place outer s s2 left left2 step present g =
    chosen items fs fs2 (is_nil (value_in (table_at s table) key)) false
    (store_by (handler_at s table (codes "__newindex")) table key w place outer fell) (store_raw table key w place fell)
    s s2 left left2 step present g

-- ---- raw stores

pub nil_stored : (items : Items) (fs fs2 : List LuaFrame) (table : TableId) (key w : Value) (place : Place) (rest : LuaPlan)
    (s s2 : LuaState) (left left2 : ℕ) (step : LuaStep)
    → is_nil key ≡ true → Goes items fs (raise place NilKey) s left fs2 step s2 left2
    → Goes items fs (store_raw table key w place rest) s left fs2 step s2 left2
nil_stored items fs fs2 table key w place rest s s2 left left2 step is g =
    chosen items fs fs2 (is_nil key) true (raise place NilKey) (Read (λ t. Write (with_stored t table key w) rest))
    s s2 left left2 step is g

pub raw_stored : (items : Items) (fs fs2 : List LuaFrame) (table : TableId) (key w : Value) (place : Place) (rest : LuaPlan)
    (s t s2 : LuaState) (left left2 : ℕ) (step : LuaStep)
    → is_nil key ≡ false → t ≡ with_stored s table key w
    → Goes items fs rest t left fs2 step s2 left2
    → Goes items fs (store_raw table key w place rest) s left fs2 step s2 left2
raw_stored items fs fs2 table key w place rest s t s2 left left2 step full is g =
    chosen items fs fs2 (is_nil key) false (raise place NilKey) (Read (λ u. Write (with_stored u table key w) rest))
    s s2 left left2 step full
    (moved items fs fs2 rest rest (with_stored s table key w) t s2 left left2 step refl (sym is) g)
