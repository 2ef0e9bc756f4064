use Rattle.std.proofs.Common.{◌≡◌}
use Rattle.lua_table.specs.Heap.{table_at}
use Rattle.spec_model.specs.Plans.{values_below}
use Rattle.terra_lib.proofs.lists.values_in.Given as goal

abbrev pub invariant-loop-index : goal.invariant-loop-index
invariant-loop-index l = l.values ≡ values_below l.index (table_at l.heap l.table)
