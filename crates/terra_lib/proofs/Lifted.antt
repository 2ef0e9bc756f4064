-- What is answered by the heap alone, in a world.
use Rattle.std.proofs.Common.{◌≡◌, ℕ, ap}
use Rattle.tl_base.specs.Layer.{state}
use Rattle.lua_table.specs.LuaState.{LuaState}
use Rattle.lua_table.specs.declared.call.LibTurn.{LibTurn}
use Rattle.lua_base.specs.Calls as base
use Rattle.exotype.specs.World.{StageState, with_heap}
use Rattle.terra_lib.specs.Answers.{turned, in_world}

pub lifted : (w : StageState) (h : LuaState) (b : ℕ) (turn : LibTurn) (t : base.Turned) → base.turned turn (state h b) ≡ t
    → turned turn (state (with_heap w h) b) ≡ in_world w t
lifted w h b turn t e = ap (λ x. in_world w x) e
