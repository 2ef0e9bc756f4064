use Rattle.std.proofs.Common.{◌≡◌, Some}
use Rattle.lua_table.specs.Heap.{table_at}
use Rattle.check_model.specs.Layouts.{entries_to}
use Rattle.check_flow.proofs.entries.entries_from.Given as goal

abbrev pub invariant-entries : goal.invariant-entries
invariant-entries l = entries_to l.heap (table_at l.heap l.table) l.place ≡ Some l.entries
