-- Stores that ask no handler.
use Rattle.std.specs.Prelude.{◌≡◌, ℕ, Bool, true, false, None, codes, if◌then◌else◌}
use Rattle.tl_base.specs.declared.ids.NodeId.{NodeId}
use Rattle.tl_base.specs.declared.ids.TableId.{TableId}
use Rattle.tl_tree.specs.Code.{Items}
use Rattle.tl_tree.specs.Nodes.{item_at}
use Rattle.lua_value.specs.declared.value.Value.{Value}
use Rattle.lua_value.specs.Values.{is_nil}
use Rattle.lua_table.specs.Cells.{nth_value, with_local}
use Rattle.lua_table.specs.Heap.{table_at, metatable_at, with_stored}
use Rattle.lua_table.specs.LuaState.{LuaState}
use Rattle.lua_table.specs.Metatables.{handler_at}
use Rattle.lua_table.specs.Pairs.{value_in}
use Rattle.lua_model.specs.declared.scope.Scope.{Scope}
use Rattle.lua_model.specs.Assignments.{store_target}
use Rattle.lua_model.specs.Plans.{LuaPlan}
use Rattle.lua_eval.specs.AtOnce.{Becomes}
use Rattle.lua_eval.specs.Spots.{held_in}
use Rattle.lua_eval.specs.declared.direct.Spot.{Spot}
use Rattle.lua_eval.specs.declared.direct.Spot.TheVariants as spots

-- what a store in a spot makes of a heap
abbrev pub put_in : LuaState → Scope → Spot → Value → LuaState
put_in s scope (spots.Local depth position) v = with_local s scope.env depth position v
put_in s scope (spots.Field table key) v = with_stored s table key v

-- two values are stored, the second one first
abbrev pub put_both : LuaState → Scope → Spot → Value → Spot → Value → LuaState
put_both s scope first v second w = put_in (put_in s scope second w) scope first v

-- a store under a key of a table asks no handler: the raw value is present, or there is no handler
abbrev pub field_takes : LuaState → TableId → Value → Bool
field_takes s table key =
    if is_nil (value_in (table_at s table) key) then is_nil (handler_at s table (codes "__newindex")) else true

-- a store in a spot asks no handler
abbrev pub takes : LuaState → Spot → Bool
takes s (spots.Local depth position) = true
takes s (spots.Field table key) = field_takes s table key

-- a local, or a field of a table without a metatable: a store there asks no handler, whatever is stored before
abbrev pub IsBare : LuaState → Spot → Type 0
IsBare s (spots.Local depth position) = Unit {0}
IsBare s (spots.Field table key) = None ≡ metatable_at s table

-- a field, whose key isn't nil
abbrev pub IsField : Spot → Type 0
IsField (spots.Local depth position) = ⊥
IsField (spots.Field table key) = is_nil key ≡ false

-- a key that isn't nil, where there is one
abbrev pub HasKey : Spot → Type 0
HasKey (spots.Local depth position) = Unit {0}
HasKey (spots.Field table key) = is_nil key ≡ false

-- a target stores in a spot
pub record StoresIn (items : Items) (n : NodeId) (scope : Scope) (spot : Spot) : Type 0 where
  pub keyed : HasKey spot
  pub stores : (v : Value) (rest : LuaPlan) (s : LuaState) (left : ℕ) → takes s spot ≡ true
      → Becomes items
      (store_target items (item_at items n) n scope (nth_value (held_in spot) 0) (nth_value (held_in spot) 1) v rest) s left
      rest (put_in s scope spot v) left
