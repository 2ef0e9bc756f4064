use Rattle.tl_tree.specs.Arena.{items_of}
use Rattle.lua_model.specs.declared.job.Caller.TheVariants.{ByOther}
use Rattle.lua_model.proofs.Composing.{one_passes}
use Rattle.lua_eval.specs.declared.frame.LuaFrame.TheVariants as frames
use Rattle.lua_eval.specs.declared.frame.OneFrame.TheVariants as ones
use Rattle.lua_eval.specs.Frames.{with_value}
use Rattle.lua_eval.proofs.Below.{jobs_of, call_below}
use Rattle.lua_eval.proofs.operators.handle.Goals as goal

pub returns-clause-means : goal.returns-clause-means
returns-clause-means c =
    let items = items_of c.args.tree.now in
    call_below items c.args.frames.now.items c.push.new.self.items c.call.new.frames.items (frames.One (ones.Value c.args.frame))
    c.args.heap.now c.call.new.heap c.args.budget.now c.call.new.budget c.in_ok-step.step
    ByOther c.args.function c.args.args c.args.place c.args.outer
    c.in_ok-push.ensures.items (one_passes (jobs_of items) (λ v. with_value items c.args.frame v)) c.in_ok-step.ensures.means
