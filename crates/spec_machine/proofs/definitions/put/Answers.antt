use Rattle.std.proofs.Common.{◌-◌}
use Rattle.lua_table.proofs.Keeping.{keeps_set, keeps_stored}
use Rattle.spec_machine.proofs.definitions.put.Goals as goal

pub returns-in-Cell-clause-kept : goal.returns-in-Cell-clause-kept
returns-in-Cell-clause-kept c = rw c.set_cell.ensures (keeps_set c.args.heap.now c.in-Cell.cell c.args.value)
