use Rattle.std.proofs.Common.{◌≡◌}
use Rattle.lua_table.specs.Cells.{values_from}
use Rattle.lua_eval.proofs.cells.values_from.Given as goal

abbrev pub invariant-cells : goal.invariant-cells
invariant-cells l = l.values ≡ values_from l.heap l.cell l.i
