use Rattle.std.proofs.Common.{◌≡◌, ◌≤◌, ◌+◌, drop}
use Rattle.lua_textlib.specs.Formats.{formatted, begun}
use Rattle.lua_textlib.proofs.formatting.formatted.Given as goal

abbrev pub invariant-loop-byte : goal.invariant-loop-byte
invariant-loop-byte l = record {
  bytes : formatted l.heap l.args l.formatting (drop l.byte-index l.format) ≡ formatted l.heap l.args begun l.format;
  next : l.formatting.next ≤ l.byte-index + 1;
}
