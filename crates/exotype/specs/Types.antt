-- Types that Lua code makes: equal types have one id, and each struct is a type of its own.
use Rattle.std.specs.Prelude.{ℕ, ◌+◌, Bool, ◌&&◌, nat_lt, List, [], ◌∷◌, length, is_some, if◌then◌else◌, Option, Some, None, slice_get}
use Rattle.std.specs.List.{list_all}
use Rattle.tl_base.specs.declared.place.Place.{Place}
use Rattle.tl_base.specs.declared.ids.TableId.{TableId}
use Rattle.tl_base.specs.declared.ids.TypeId.{TypeId}
use Rattle.lua_table.specs.LuaState.{LuaState}
use Rattle.lua_table.specs.Heap.{with_table}
use Rattle.terra_types.specs.declared.types.TypeForm.{TypeForm}
use Rattle.terra_types.specs.declared.types.TypeForm.TheVariants as forms
use Rattle.terra_types.specs.Making.{id_of, with_form}
use Rattle.terra_types.specs.Making as types
use Rattle.terra_term.specs.Held.{with_types}
use Rattle.exotype.specs.declared.kept.StructTables.{StructTables}
use Rattle.exotype.specs.World.{StageState, with_store, tables_at, with_tables}

-- what an id names
abbrev pub is_type : List TypeForm → TypeId → Bool
is_type types t = nat_lt t.0 (length types)

abbrev pub are_types : List TypeForm → List TypeId → Bool
are_types types ids = list_all (is_type types) ids

-- the world with a type: it comes last where it is new
abbrev with_type : StageState → TypeForm → StageState
with_type w form = with_store w (with_types w.store (with_form w.store.types form))

-- Of what is no type no other is made.

abbrev pub pointer_id : StageState → TypeId → TypeId
pointer_id w t = if is_type w.store.types t then id_of w.store.types (forms.Pointer t) else t

abbrev pub with_pointer : StageState → TypeId → StageState
with_pointer w t = if is_type w.store.types t then with_type w (forms.Pointer t) else w

abbrev pub array_id : StageState → TypeId → ℕ → TypeId
array_id w t n = if is_type w.store.types t then id_of w.store.types (forms.Array t n) else t

abbrev pub with_array : StageState → TypeId → ℕ → StageState
with_array w t n = if is_type w.store.types t then with_type w (forms.Array t n) else w

abbrev pub names_types : StageState → List TypeId → TypeId → Bool
names_types w params result = is_type w.store.types result && are_types w.store.types params

abbrev pub function_id : StageState → List TypeId → TypeId → TypeId
function_id w params result = if names_types w params result then id_of w.store.types (forms.Function params result) else result

abbrev pub with_function : StageState → List TypeId → TypeId → StageState
with_function w params result = if names_types w params result then with_type w (forms.Function params result) else w

-- ---- structs

abbrev number_of : Option TypeForm → Option ℕ
number_of (Some (forms.Struct number place layout)) = Some number
number_of _ = None

-- a struct's number among structs, counted from 1
abbrev pub struct_number : List TypeForm → TypeId → Option ℕ
struct_number types t = number_of (slice_get types t.0)

abbrev pub is_struct : StageState → TypeId → Bool
is_struct w t = is_some (struct_number w.store.types t)

abbrev tables_of_number : StageState → Option ℕ → StructTables
tables_of_number w (Some number) = tables_at w.kept number
tables_of_number w None = tables_at w.kept 0

-- the tables of a struct
abbrev pub tables_of : StageState → TypeId → StructTables
tables_of w t = tables_of_number w (struct_number w.store.types t)

abbrev table_id : ℕ → TableId
table_id n = record { 0 = n }

-- the next three tables: entries, methods and metamethods
abbrev pub next_tables : LuaState → StructTables
next_tables heap =
    let first = length heap.tables in
    record { entries = table_id first; methods = table_id (first + 1); metamethods = table_id (first + 2) }

abbrev pub with_three_tables : LuaState → LuaState
with_three_tables heap = with_table (with_table (with_table heap))

abbrev pub next_type : StageState → TypeId
next_type w = record { 0 = length w.store.types }

-- a new struct, made at a place, with three new empty tables
abbrev pub with_struct : StageState → Place → StageState
with_struct w place =
    record w {
      heap = with_three_tables w.heap;
      store = with_types w.store (types.with_struct w.store.types place);
      kept = with_tables w.kept (next_tables w.heap);
    }
