use Rattle.std.proofs.Common.{◌∙◌}
use Rattle.lua_table.proofs.Interned.{place_found}
use Rattle.lua_table.proofs.heap.place_of_text.Goals as goal

pub returns : goal.returns
returns c = c.get_index_of.ensures.index ∙ place_found c.args.texts.now.keys c.args.bytes.now
