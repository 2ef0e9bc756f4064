use Rattle.std.proofs.Common.{◌≡◌, drop}
use Rattle.lua_table.specs.Keeping.{KeepsHeap}
use Rattle.lua_table.specs.Cells.{with_cells}
use Rattle.lua_eval.proofs.cells.with_cells.Given as goal

abbrev pub invariant-values : goal.invariant-values
invariant-values l = record {
  same : with_cells (drop l.value-index l.values) l.heap ≡ with_cells l.values l.fn.heap;
  kept : KeepsHeap l.fn.heap l.heap;
}
