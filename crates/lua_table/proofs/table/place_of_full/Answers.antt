use Rattle.std.proofs.Common.{sym}
use Rattle.lua_table.proofs.Listed.{place_there}
use Rattle.lua_table.proofs.table.place_of_full.Goals as goal

pub returns-else-is_nil-clause-place : goal.returns-else-is_nil-clause-place
returns-else-is_nil-clause-place c = place_there c.args.entries.now.entries c.args.key c.in_ok-place.place (sym c.in_ok-place.ensures.index)
