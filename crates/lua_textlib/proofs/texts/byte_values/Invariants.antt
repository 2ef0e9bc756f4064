use Rattle.std.proofs.Common.{◌≡◌, map, take}
use Rattle.lua_textlib.specs.Texts.{number_of_byte}
use Rattle.lua_textlib.proofs.texts.byte_values.Given as goal

abbrev pub invariant-loop-byte : goal.invariant-loop-byte
invariant-loop-byte l = l.values ≡ map number_of_byte (take l.byte-index l.bytes)
