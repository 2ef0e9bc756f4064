-- The environments around a local.
use Rattle.std.proofs.Common.{◌≡◌, ℕ, suc, ◌-◌, ◌<◌, refl, arith}
use Rattle.tl_base.specs.declared.ids.EnvId.{EnvId}
use Rattle.lua_table.specs.LuaState.{LuaState}
use Rattle.lua_table.specs.Heap.{outer_at}
use Rattle.lua_table.specs.Cells.{or_self, env_out}

out_suc : (k m : ℕ) (env : EnvId) (s : LuaState) → k ≡ suc m → env_out s env k ≡ env_out s (or_self (outer_at s env) env) m
out_suc k m env s e = rw e refl

-- one step outwards
pub out_next : (left : ℕ) (env : EnvId) (s : LuaState) → 0 < left → env_out s env left ≡ env_out s (or_self (outer_at s env) env) (left - 1)
out_next left env s h = out_suc left (left - 1) env s (omega arith)
