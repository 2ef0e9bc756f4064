use Rattle.std.proofs.Common.{◌≡◌, ◌-◌}
use Rattle.lua_table.specs.Keeping.{KeepsHeap}
use Rattle.lua_textlib.specs.Tables.{shifted_up}
use Rattle.lua_textlib.proofs.tables.shift_up.Given as goal

abbrev pub invariant-loop-index : goal.invariant-loop-index
invariant-loop-index l = record {
  moved : shifted_up l.heap l.table l.at (l.shift - l.index) ≡ shifted_up l.fn.heap l.table l.at l.shift;
  kept : KeepsHeap l.fn.heap l.heap;
}
