use Rattle.lua_table.proofs.Listed.{listed_key}
use Rattle.lua_table.proofs.table.replace_listed.Goals as goal

pub replace_at-requires : goal.replace_at-requires
replace_at-requires c = listed_key c.args.entries.now.entries c.args.listed.now c.args.key.now c.args.index c.requires.places c.requires.index c.requires.above c.requires.within
