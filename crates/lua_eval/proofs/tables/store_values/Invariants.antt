use Rattle.std.proofs.Common.{◌≡◌, drop}
use Rattle.lua_table.specs.Keeping.{KeepsHeap}
use Rattle.lua_model.specs.Tables.{with_values}
use Rattle.lua_eval.proofs.tables.store_values.Given as goal

abbrev pub invariant-values : goal.invariant-values
invariant-values l = record {
  same : with_values l.table l.at (drop l.value-index l.values) l.heap ≡ with_values l.table l.from l.values l.fn.heap;
  kept : KeepsHeap l.fn.heap l.heap;
}
