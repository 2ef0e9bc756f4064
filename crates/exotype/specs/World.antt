-- The world of a staging, as lists in which ids are places.
use Rattle.std.specs.Prelude.{ℕ, ◌-◌, Bool, true, false, List, [], ◌∷◌, ◌++◌, slice_index_or}
use Rattle.tl_base.specs.declared.ids.TableId.{TableId}
use Rattle.lua_table.specs.LuaState.{LuaState}
use Rattle.lua_table.specs.Heap as heaps
use Rattle.terra_types.specs.declared.types.TypeForm.{TypeForm}
use Rattle.terra_term.specs.Held.{Held}
use Rattle.terra_term.specs.Held as stores
use Rattle.terra_term.specs.declared.store.Export.{Export}
use Rattle.exotype.specs.declared.kept.StructTables.{StructTables}
use Rattle.exotype.specs.declared.property.Property.{Property}
use Rattle.exotype.specs.declared.property.Known.{Known}

-- what is kept of types beside the store: the tables of each struct, in order of their numbers, and the properties that were asked for
pub record KeptState : Type 0 where
  pub structs : List StructTables
  pub properties : List (Property × Known)

-- the exports so far, and whether `saveobj` was called
pub record ExportState : Type 0 where
  pub list : List Export
  pub saved : Bool

-- Lua's heap, Terra's store, what is kept of types, the exports, and the bytes of memory that a run has
pub record StageState : Type 0 where
  pub heap : LuaState
  pub store : Held
  pub kept : KeptState
  pub exports : ExportState
  pub memory : ℕ

abbrev pub empty_kept : KeptState
empty_kept = record { structs = []; properties = [] }

abbrev pub no_exports : ExportState
no_exports = record { list = []; saved = false }

-- nothing is there but types
abbrev pub opening : List TypeForm → ℕ → StageState
opening types memory =
    record { heap = heaps.empty; store = stores.empty types; kept = empty_kept; exports = no_exports; memory = memory }

-- a world with another part
abbrev pub with_heap : StageState → LuaState → StageState
with_heap w heap = record w { heap = heap }

abbrev pub with_store : StageState → Held → StageState
with_store w store = record w { store = store }

-- ---- exports

abbrev pub with_export : ExportState → Export → ExportState
with_export exports export = record exports { list = exports.list ++ export ∷ [] }

abbrev pub with_saved : ExportState → ExportState
with_saved exports = record exports { saved = true }

-- ---- the tables of structs

abbrev table_zero : TableId
table_zero = record { 0 = 0 }

-- those of the struct of a number, counted from 1
abbrev pub tables_at : KeptState → ℕ → StructTables
tables_at kept number =
    slice_index_or kept.structs (number - 1) (record { entries = table_zero; methods = table_zero; metamethods = table_zero })

abbrev pub with_tables : KeptState → StructTables → KeptState
with_tables kept tables = record kept { structs = kept.structs ++ tables ∷ [] }
