use Rattle.std.proofs.Common.{◌≡◌, ◌-◌}
use Rattle.lua_table.specs.Keeping.{KeepsHeap}
use Rattle.lua_table.specs.Cells.{declare_all}
use Rattle.lua_eval.proofs.cells.declare_all.Given as goal

abbrev pub invariant-names : goal.invariant-names
invariant-names l = record {
  same : declare_all (l.fn.count - l.counter) l.fn.env l.rest l.heap ≡ declare_all l.fn.count l.fn.env l.fn.values l.fn.heap;
  kept : KeepsHeap l.fn.heap l.heap;
}
