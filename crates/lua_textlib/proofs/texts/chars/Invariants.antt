use Rattle.std.proofs.Common.{◌≡◌, ◌+◌, [], drop}
use Rattle.lua_textlib.specs.Texts.{chars_from}
use Rattle.lua_textlib.proofs.texts.chars.Given as goal

abbrev pub invariant-loop-index : goal.invariant-loop-index
invariant-loop-index l = chars_from l.heap l.made (l.index + 1) (drop l.index l.args) ≡ chars_from l.heap [] 1 l.args
