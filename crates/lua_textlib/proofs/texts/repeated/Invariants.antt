use Rattle.std.proofs.Common.{◌≡◌}
use Rattle.lua_textlib.specs.Texts.{repeated}
use Rattle.lua_textlib.proofs.texts.repeated.Given as goal

abbrev pub invariant-loop-turn : goal.invariant-loop-turn
invariant-loop-turn l = l.made.items ≡ repeated l._turn l.bytes
