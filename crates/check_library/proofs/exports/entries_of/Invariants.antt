use Rattle.std.proofs.Common.{◌≡◌, ◌++◌, drop}
use Rattle.lua_table.specs.Heap.{table_at}
use Rattle.check_library.specs.Exports.{taken}
use Rattle.check_library.proofs.exports.entries_of.Given as goal

abbrev pub invariant-each : goal.invariant-each
invariant-each l =
    l.entries ++ taken l.world l.at_end (drop l.place (table_at l.world.heap l.table))
    ≡ taken l.fn.world l.fn.at_end (table_at l.fn.world.heap l.fn.table)
