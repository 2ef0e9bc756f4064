use Rattle.std.proofs.Common.{sym}
use Rattle.lua_table.proofs.Listed.{place_there}
use Rattle.lua_table.proofs.table.empty.Goals as goal

pub replace_at-requires : goal.replace_at-requires
replace_at-requires c = place_there c.args.entries.now.entries c.args.key.now c.in-Some.place (sym c.in-Some.ensures.index)
