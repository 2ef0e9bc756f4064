use Rattle.std.proofs.Common.{refl, None}
use Rattle.lua_model.specs.Plans.{alone}
use Rattle.lua_eval.specs.declared.frame.LuaFrame.TheVariants as frames
use Rattle.lua_eval.specs.declared.frame.OneFrame.TheVariants as ones
use Rattle.lua_eval.specs.declared.frame.ValueFrame.TheVariants as of_value
use Rattle.lua_eval.proofs.Below.{read_below}
use Rattle.lua_eval.proofs.machine.read_alone.Goals as goal

pub returns-clause-means : goal.returns-clause-means
returns-clause-means c = λ items.
    let a = c.args in
    read_below items a.frames.now.items c.push.new.self.items c.read.new.frames.items (frames.One (ones.Value of_value.Alone))
    a.heap.now c.read.new.heap a.budget.now c.read.new.budget c.in_ok-found.found a.object a.key a.place None alone
    c.in_ok-push.ensures.items (λ r. refl) (c.in_ok-found.ensures.means items)
