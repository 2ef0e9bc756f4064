-- Lists, which are tables with the metatable of lists.
use Rattle.std.specs.Prelude.{ℕ, ◌+◌, pos, List, [], ◌∷◌, Some, if◌then◌else◌, nat_le}
use Rattle.tl_base.specs.declared.ids.TableId.{TableId}
use Rattle.tl_base.specs.declared.place.Place.{Place}
use Rattle.tl_base.specs.Layer.{State, state}
use Rattle.lua_value.specs.declared.library.LibFn.TheVariants as library
use Rattle.lua_value.specs.declared.value.Value.{Value}
use Rattle.lua_value.specs.declared.value.Value.TheVariants as values
use Rattle.lua_table.specs.LuaState.{LuaState}
use Rattle.lua_table.specs.Pairs.{value_at}
use Rattle.lua_table.specs.Heap.{next_table, with_table, table_at, with_stored, with_metatable}
use Rattle.lua_table.specs.Cells.{first_value}
use Rattle.lua_table.specs.declared.call.Back.{Back}
use Rattle.lua_table.specs.declared.call.Back.TheVariants as backs
use Rattle.lua_table.specs.declared.call.LibNext.TheVariants as nexts
use Rattle.lua_table.specs.declared.call.LibTurn.{LibTurn}
use Rattle.lua_table.specs.declared.call.LibTurn.TheVariants as turns
use Rattle.lua_base.specs.Arguments.{argument, has_argument, table_in}
use Rattle.exotype.specs.World.{StageState, with_heap}
use Rattle.spec_model.specs.Plans.{values_in}
use Rattle.terra_lib.specs.Answers.{Turned, turned, bad_argument, gives, gives_one, paying, given}
pub use Rattle.lua_table.specs.Heap.{end_of}

-- the opening metatable of lists, which is made as the sixth table
abbrev pub list_methods : TableId
list_methods = record { 0 = 5 }

abbrev pub as_list : LuaState → TableId → LuaState
as_list heap t = with_metatable heap t (Some list_methods)

-- a heap with a new list
abbrev pub with_list : LuaState → LuaState
with_list heap = as_list (with_table heap) (next_table heap)

-- ---- `newlist`

-- `newlist` gives a table, or a new one, as a list
abbrev pub list_of : State StageState → Value → Place → Turned
list_of s values.Nil place = gives_one s (with_heap s.world (with_list s.world.heap)) (values.Table (next_table s.world.heap))
list_of s (values.Table t) place = gives_one s (with_heap s.world (as_list s.world.heap t)) (values.Table t)
list_of s v place = bad_argument s place 1 library.NewList

abbrev pub newlist_turned : State StageState → List Value → Place → Turned
newlist_turned s vs place = list_of s (argument vs 0) place

-- ---- `insert` and `insertall`

-- a heap after a value is put behind the end of a table's list
abbrev pub appended : LuaState → TableId → Value → LuaState
appended heap t v = with_stored heap t (values.Number (pos (end_of heap t + 1))) v

-- `insert` puts a value behind the end of a list, and pays nothing
abbrev pub insert_turned : State StageState → List Value → Place → Turned
insert_turned s vs place =
    given (table_in (argument vs 0)) (bad_argument s place 1 library.Insert) (λ t.
    if has_argument vs 1 then gives s (with_heap s.world (appended s.world.heap t (argument vs 1))) []
    else bad_argument s place 2 library.Insert)

-- values, each put behind the end
abbrev pub all_appended : LuaState → TableId → List Value → LuaState
all_appended heap t [] = heap
all_appended heap t (v ∷ vs) = all_appended (appended heap t v) t vs

-- `insertall` puts the values of another list there, as they are at the begin, and pays for each of them before the first one is put
abbrev pub insertall_turned : State StageState → List Value → Place → Turned
insertall_turned s vs place =
    given (table_in (argument vs 0)) (bad_argument s place 1 library.InsertAll) (λ t.
    given (table_in (argument vs 1)) (bad_argument s place 2 library.InsertAll) (λ l.
    paying s (end_of s.world.heap l) (λ paid.
    gives paid (with_heap s.world (all_appended s.world.heap t (values_in (table_at s.world.heap l)))) [])))

-- ---- `map`

-- `map` calls its function on the value of a number, where there is one more; else it gives the new list
abbrev pub mapping : LuaState → TableId → ℕ → TableId → Value → ℕ → LibTurn
mapping heap source count result function at =
    if nat_le at count
    then turns.CallBack function (value_at (table_at heap source) at ∷ []) (nexts.Map source count result function at)
    else turns.Values (values.Table result ∷ [])

abbrev pub begun_map : State StageState → TableId → Value → Turned
begun_map s source function =
    let heap = with_list s.world.heap in
    turned (mapping heap source (end_of s.world.heap source) (next_table s.world.heap) function 1) (state (with_heap s.world heap) s.left)

-- `map` pays for each value of a list, as long as it is at the begin, before the first call
abbrev pub map_turned : State StageState → List Value → Place → Turned
map_turned s vs place =
    given (table_in (argument vs 0)) (bad_argument s place 1 library.Map) (λ t.
    if has_argument vs 1 then paying s (end_of s.world.heap t) (λ paid. begun_map paid t (argument vs 1))
    else bad_argument s place 2 library.Map)

-- the first value that the function gave is put into the new list, and `map` goes on with the next number
abbrev pub map_heap : LuaState → TableId → ℕ → Back → LuaState
map_heap heap result at (backs.Values vs) = with_stored heap result (values.Number (pos at)) (first_value vs)
map_heap heap result at (backs.Raised v place) = heap

abbrev pub map_turn : LuaState → TableId → ℕ → TableId → Value → ℕ → Back → LibTurn
map_turn heap source count result function at (backs.Values vs) = mapping heap source count result function (at + 1)
map_turn heap source count result function at (backs.Raised v place) = turns.Raise v place

abbrev pub map_back : State StageState → TableId → ℕ → TableId → Value → ℕ → Back → Turned
map_back s source count result function at answer =
    let heap = map_heap s.world.heap result at answer in
    turned (map_turn heap source count result function at answer) (state (with_heap s.world heap) s.left)
