-- What shows of an answer of the library that asks nothing.
use Rattle.std.proofs.Common.{◌≡◌, List, [], ◌∷◌, refl}
use Rattle.tl_base.specs.declared.place.Place.{Place}
use Rattle.tl_base.specs.Layer.{State, Given, Ended, SpentAt}
use Rattle.lua_table.specs.declared.call.LibTurn.{LibTurn}
use Rattle.lua_table.specs.declared.call.LibTurn.TheVariants as turns
use Rattle.lua_model.specs.declared.end.LuaEnd.{LuaEnd}
use Rattle.lua_model.specs.declared.question.LuaAnswer.{LuaAnswer}
use Rattle.exotype.specs.World.{StageState}
use Rattle.stage_library.specs.Library.{turn_seen, library_seen}

-- it ends, whatever is answered behind that
pub ended_alone : (place : Place) (turn : LibTurn) (s : State StageState) (end : LuaEnd) (later : List (Given StageState LuaAnswer))
    → turn_seen place turn s ≡ Ended end s → library_seen place later turn s ≡ Ended end s
ended_alone place turn s end [] e = e
ended_alone place (turns.Values vs) s end (next ∷ later) e = e
ended_alone place (turns.Raise v at) s end (next ∷ later) e = e
ended_alone place turns.Spent s end (next ∷ later) e = e
ended_alone place (turns.CallBack f vs on) s end (next ∷ later) e = cc
ended_alone place (turns.TypeText t on) s end (next ∷ later) e = cc

pub spent_alone : (place : Place) (s : State StageState) (later : List (Given StageState LuaAnswer))
    → library_seen place later turns.Spent s ≡ SpentAt s
spent_alone place s [] = refl
spent_alone place s (next ∷ later) = refl
