use Rattle.std.proofs.Common.{◌≡◌, ◌-◌, pos, ◌+ℤ◌}
use Rattle.lua_table.specs.Keeping.{KeepsHeap}
use Rattle.lua_textlib.specs.Tables.{shifted_down}
use Rattle.lua_textlib.proofs.tables.shift_down.Given as goal

abbrev pub invariant-loop-index : goal.invariant-loop-index
invariant-loop-index l = record {
  moved : shifted_down l.heap l.table (l.at +ℤ pos l.index) (l.shift - l.index) ≡ shifted_down l.fn.heap l.table l.at l.shift;
  kept : KeepsHeap l.fn.heap l.heap;
}
