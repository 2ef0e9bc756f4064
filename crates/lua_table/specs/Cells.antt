-- The cells of locals, and the values that stand in fresh cells. What a whole heap never lacks reads as nil, and is not
-- written.
use Rattle.std.specs.Prelude.{ℕ, zero, suc, ◌+◌, List, [], ◌∷◌, slice_index_or, Option, Some, None}
use Rattle.tl_base.specs.declared.ids.EnvId.{EnvId}
use Rattle.tl_base.specs.declared.ids.CellId.{CellId}
use Rattle.lua_value.specs.declared.value.Value.{Value}
use Rattle.lua_value.specs.declared.value.Value.TheVariants.{Nil}
use Rattle.lua_table.specs.LuaState.{LuaState}
use Rattle.lua_table.specs.Heap.{next_cell, with_cell, cell_at, with_set, cells_at, outer_at, with_declared}

-- ---- values in their order

abbrev pub nth_value : List Value → ℕ → Value
nth_value vs i = slice_index_or vs i Nil

abbrev pub first_value : List Value → Value
first_value [] = Nil
first_value (v ∷ vs) = v

abbrev pub further_values : List Value → List Value
further_values [] = []
further_values (v ∷ vs) = vs

-- ---- locals (Lua 5.1 manual, section 2.6)

abbrev pub or_self : Option EnvId → EnvId → EnvId
or_self (Some outer) env = outer
or_self None env = env

-- the environment so many steps outwards
abbrev pub env_out : LuaState → EnvId → ℕ → EnvId
env_out s env zero = env
env_out s env (suc depth) = env_out s (or_self (outer_at s env) env) depth

-- the cell of the declaration that stands at a position of the environment so many steps outwards
abbrev pub local_cell : LuaState → EnvId → ℕ → ℕ → CellId
local_cell s env depth position = slice_index_or (cells_at s (env_out s env depth)) position (next_cell s)

abbrev pub local_value : LuaState → EnvId → ℕ → ℕ → Value
local_value s env depth position = cell_at s (local_cell s env depth position)

abbrev pub with_local : LuaState → EnvId → ℕ → ℕ → Value → LuaState
with_local s env depth position v = with_set s (local_cell s env depth position) v

-- a declaration in an environment, in a fresh cell that holds a value
abbrev pub declare : EnvId → Value → LuaState → LuaState
declare env v s = with_declared (with_cell s v) env (next_cell s)

-- so many declarations, with these values, and nil where there are no more
abbrev pub declare_all : ℕ → EnvId → List Value → LuaState → LuaState
declare_all zero env vs s = s
declare_all (suc n) env vs s = declare_all n env (further_values vs) (declare env (first_value vs) s)

-- ---- values that belong to no environment

-- fresh cells with these values
abbrev pub with_cells : List Value → LuaState → LuaState
with_cells [] s = s
with_cells (v ∷ vs) s = with_cells vs (with_cell s v)

-- what so many cells hold, from one on
abbrev pub values_from : LuaState → CellId → ℕ → List Value
values_from s cell zero = []
values_from s cell (suc n) = cell_at s cell ∷ values_from s (record { 0 = cell.0 + 1 }) n
