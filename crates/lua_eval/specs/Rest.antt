-- What remains to be done by an evaluation that is suspended.
use Rattle.std.specs.Prelude.{◌≡◌, true}
use Rattle.tl_base.specs.Layer.{Meaning}
use Rattle.tl_base.specs.Machine.{rest_of, fits_waiting}
use Rattle.tl_tree.specs.Arena.{items_of}
use Rattle.lua_table.specs.LuaState.{LuaState}
use Rattle.lua_model.specs.declared.end.LuaEnd.{LuaEnd}
use Rattle.lua_model.specs.declared.question.LuaQuestion.{LuaQuestion}
use Rattle.lua_model.specs.declared.question.LuaAnswer.{LuaAnswer}
use Rattle.lua_model.specs.Meaning.{LuaGiven}
use Rattle.lua_eval.specs.declared.lua.Lua.{Lua}
use Rattle.lua_eval.specs.Frames.{lua_rules, is_go}

abbrev pub lua_rest : Lua → Meaning LuaState LuaQuestion LuaAnswer LuaEnd
lua_rest lua = rest_of (lua_rules (items_of lua.machine.machine.tree.now)) lua.machine.frames.items lua.machine.waiting

-- only the first answer begins
abbrev pub LuaFits : Lua → LuaGiven → Type 0
LuaFits lua next = fits_waiting is_go lua.machine.waiting next.answer ≡ true
