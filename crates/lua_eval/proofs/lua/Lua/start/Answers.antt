use Rattle.std.proofs.Common.{ap, ◌∙◌}
use Rattle.tl_base.specs.Machine.{meaning_of}
use Rattle.tl_tree.specs.Code.{Items}
use Rattle.lua_eval.specs.Frames.{lua_rules}
use Rattle.lua_eval.proofs.lua.Lua.start.Goals as goal

pub returns-clause-means : goal.returns-clause-means
returns-clause-means c = λ first later.
    rw c.new.ensures at c.start.ensures.means first later
