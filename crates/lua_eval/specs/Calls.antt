-- The environment of a call in progress, by what its function has, and what a call raises.
use Rattle.std.specs.Prelude.{ℕ, ◌+◌, Bool, List, [], length, drop, Some, if◌then◌else◌}
use Rattle.tl_base.specs.declared.ids.NodeId.{NodeId}
use Rattle.tl_base.specs.declared.place.Place.{Place}
use Rattle.lua_value.specs.declared.value.Value.{Value}
use Rattle.lua_value.specs.declared.value.Value.TheVariants as values
use Rattle.lua_value.specs.Values.{kind_of}
use Rattle.lua_table.specs.declared.env.Closure.{Closure}
use Rattle.lua_table.specs.LuaState.{LuaState}
use Rattle.lua_table.specs.Heap.{next_env, next_cell, with_env}
use Rattle.lua_table.specs.Cells.{declare_all, with_cells}
use Rattle.lua_ops.specs.declared.fault.Fault.{Fault}
use Rattle.lua_ops.specs.declared.fault.Fault.TheVariants.{Call, CallsTerra}
use Rattle.lua_model.specs.declared.scope.Scope.{Scope}

abbrev pub count_in : Bool → List NodeId → ℕ
count_in method names = if method then length names + 1 else length names

abbrev pub extras_in : Bool → List NodeId → Bool → List Value → List Value
extras_in method names variadic vs = if variadic then drop (count_in method names) vs else []

-- the heap with the parameters, where the call was counted
abbrev pub declared_in : Bool → List NodeId → Closure → List Value → LuaState → LuaState
declared_in method names c vs s =
    declare_all (count_in method names) (next_env s) vs (with_env s c.function (Some c.env))

abbrev pub entered_state : Bool → List NodeId → Bool → Closure → List Value → LuaState → LuaState
entered_state method names variadic c vs s =
    with_cells (extras_in method names variadic vs) (declared_in method names c vs s)

abbrev pub entered_scope : Bool → List NodeId → Bool → Closure → List Value → Place → LuaState → Scope
entered_scope method names variadic c vs place s =
    record {
      env = next_env s;
      extra = next_cell (declared_in method names c vs s);
      count = length (extras_in method names variadic vs);
      call = Some place;
    }

-- what the call of a value raises that is no function of the source or the library and no table
abbrev pub call_fault : Value → Fault
call_fault (values.Primitive p) = CallsTerra
call_fault v = Call (kind_of v)
