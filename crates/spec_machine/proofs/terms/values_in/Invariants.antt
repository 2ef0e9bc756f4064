use Rattle.std.proofs.Common.{◌≡◌}
use Rattle.lua_table.specs.Heap.{table_at}
use Rattle.spec_model.specs.Plans.{values_below}
use Rattle.spec_machine.proofs.terms.values_in.Given as goal

abbrev pub invariant-numbers : goal.invariant-numbers
invariant-numbers l = l.values ≡ values_below l.index (table_at l.heap l.table)
