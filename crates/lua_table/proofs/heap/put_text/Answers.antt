use Rattle.std.proofs.Common.{◌∙◌, ap}
use Rattle.lua_table.specs.Texts.{contents}
use Rattle.lua_table.proofs.Interned.{put_last}
use Rattle.lua_table.proofs.heap.put_text.Goals as goal

pub returns-clause-ok : goal.returns-clause-ok
returns-clause-ok c = ap contents c.in_ok-insert.ensures.keys ∙ put_last c.args.texts.now.keys c.args.text c.requires
