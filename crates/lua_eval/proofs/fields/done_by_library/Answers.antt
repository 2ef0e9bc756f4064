use Rattle.lua_model.specs.Plans.{fell}
use Rattle.lua_model.proofs.Composing.{all_passes}
use Rattle.lua_eval.specs.declared.frame.LuaFrame.TheVariants.{All}
use Rattle.lua_eval.specs.declared.frame.AllFrame.TheVariants.{Done}
use Rattle.lua_eval.proofs.Below.{jobs_of, library_below}
use Rattle.lua_eval.proofs.fields.done_by_library.Goals as goal

pub returns-clause-means : goal.returns-clause-means
returns-clause-means c = λ items.
    library_below items c.args.frames.now.items c.push.new.self.items c.call_library.new.frames.items (All Done)
    c.args.heap.now c.call_library.new.heap c.args.budget.now c.call_library.new.budget c.in_ok-step.step
    c.args.call.function c.args.call.args c.args.call.place c.args.call.outer
    c.in_ok-push.ensures.items (all_passes (jobs_of items) (λ vs. fell)) (c.in_ok-step.ensures.means items)
