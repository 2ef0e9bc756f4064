-- What later states of a heap keep of earlier ones.
use Rattle.std.specs.Prelude.{◌≡◌, ◌<◌, ◌≤◌, List, ◌++◌, length}
use Rattle.tl_base.specs.declared.ids.EnvId.{EnvId}
use Rattle.lua_table.specs.Heap.{block_at, outer_at, cells_at}
use Rattle.lua_table.specs.LuaState.{LuaState}

-- a list that only grew
abbrev pub IsFront : {X : Type 0} → List X → List X → Type 0
IsFront {X} old new = (more : List X) × (new ≡ old ++ more)

-- an environment stays that of its owner, in the same outer one, and its cells only grow
pub record KeepsEnv (old new : LuaState) (id : EnvId) : Type 0 where
  pub owner : block_at new id ≡ block_at old id
  pub outer : outer_at new id ≡ outer_at old id
  pub declared : IsFront (cells_at old id) (cells_at new id)

-- texts, functions, macros and what was printed are fronts of what comes later; no list shrinks
pub record KeepsHeap (old new : LuaState) : Type 0 where
  pub texts : IsFront old.texts new.texts
  pub closures : IsFront old.closures new.closures
  pub macros : IsFront old.macros new.macros
  pub printed : IsFront old.printed new.printed
  pub environments : (id : EnvId) → id.0 < length old.envs → KeepsEnv old new id
  pub more_envs : length old.envs ≤ length new.envs
  pub more_tables : length old.tables ≤ length new.tables
  pub more_cells : length old.cells ≤ length new.cells
