use Rattle.std.proofs.Common.{◌≡◌}
use Rattle.lua_table.specs.Heap.{table_at}
use Rattle.lua_base.specs.Tables.{values_from}
use Rattle.lua_base.proofs.tables.values_from.Given as goal

abbrev pub invariant-loop-step : goal.invariant-loop-step
invariant-loop-step l = l.values ≡ values_from (table_at l.heap l.table) l.first l.step
