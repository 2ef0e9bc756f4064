-- The globals with which a source begins (Lua 5.1 manual, section 5), in this order. Lua code has one table of globals, of number 0;
-- texts have the fields of the table of number 1, and the functions on tables stand in that of number 2.
use Rattle.std.specs.Prelude.{ℕ, List, [], ◌∷◌, codes}
use Rattle.tl_base.specs.declared.ids.TableId.{TableId}
use Rattle.lua_value.specs.declared.value.Value.{Value}
use Rattle.lua_value.specs.declared.value.Value.TheVariants as values
use Rattle.lua_value.specs.declared.library.LibFn.{LibFn}
use Rattle.lua_value.specs.declared.library.LibFn.TheVariants.{Assert, Error, GetMetatable, Ipairs, Next, Pairs, Pcall, Print, RawEqual}
use Rattle.lua_value.specs.declared.library.LibFn.TheVariants.{RawGet, RawSet, Select, SetMetatable, ToNumber, ToString, «Type» as TypeOf}
use Rattle.lua_value.specs.declared.library.LibFn.TheVariants.{Unpack, Byte, Char, Format, Len, Rep, Sub, Concat, TableInsert, Remove}
use Rattle.lua_value.specs.Library.{library_text}
use Rattle.lua_table.specs.LuaState.{LuaState}
use Rattle.lua_table.specs.Heap.{empty, with_table, with_text, interned_id, with_stored}
pub use Rattle.lua_table.specs.Heap.{globals, text_functions}

-- a value under a name of a table
abbrev pub with_named : LuaState → TableId → List ℕ → Value → LuaState
with_named s table name v = with_stored (with_text s name) table (values.Text (interned_id s name)) v

-- functions under their names
unfoldable pub with_functions : LuaState → TableId → List LibFn → LuaState
with_functions s table [] = s
with_functions s table (f ∷ fs) = with_functions (with_named s table (library_text f) (values.Library f)) table fs

abbrev pub table_functions : TableId
table_functions = record { 0 = 2 }

-- the three tables, before anything stands in them
abbrev pub bare : LuaState
bare = with_table (with_table (with_table empty))

abbrev pub basic : List LibFn
basic =
    Assert ∷ Error ∷ GetMetatable ∷ Ipairs ∷ Next ∷ Pairs ∷ Pcall ∷ Print ∷ RawEqual ∷ RawGet ∷ RawSet ∷ Select ∷ SetMetatable ∷ ToNumber
    ∷ ToString ∷ TypeOf ∷ Unpack ∷ []

abbrev pub on_texts : List LibFn
on_texts = Byte ∷ Char ∷ Format ∷ Len ∷ Rep ∷ Sub ∷ []

abbrev pub on_tables : List LibFn
on_tables = Concat ∷ TableInsert ∷ Remove ∷ []

-- the table of globals, with a name for itself, the version, the basic functions, and the two other tables
unfoldable pub with_globals : LuaState → TableId → TableId → TableId → LuaState
with_globals s0 globals texts tables =
    let version = codes "Lua 5.1" in
    let s1 = with_named s0 globals (codes "_G") (values.Table globals) in
    let s2 = with_named (with_text s1 version) globals (codes "_VERSION") (values.Text (interned_id s1 version)) in
    let s3 = with_functions s2 globals basic in
    let s4 = with_named s3 globals (codes "string") (values.Table texts) in
    with_named s4 globals (codes "table") (values.Table tables)

-- and the functions in those
abbrev pub opening : LuaState
opening =
    let s = with_globals bare globals text_functions table_functions in
    with_functions (with_functions s text_functions on_texts) table_functions on_tables
