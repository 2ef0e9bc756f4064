use Rattle.std.proofs.Common.{ℕ, ◌∷◌}
use Rattle.tl_base.specs.declared.machine.Step.TheVariants as steps
use Rattle.tl_tree.specs.Code.{Items}
use Rattle.lua_table.specs.LuaState.{LuaState}
use Rattle.lua_model.specs.declared.job.Job.TheVariants as jobs
use Rattle.lua_eval.specs.declared.frame.LuaFrame.TheVariants as frames
use Rattle.lua_eval.specs.declared.frame.AllFrame.TheVariants as alls
use Rattle.lua_eval.specs.Frames.{targets_plan}
use Rattle.lua_eval.specs.Steps.{Goes}
use Rattle.lua_eval.proofs.Doing.{enters}
use Rattle.lua_eval.proofs.assignments.enter_target.Goals as goal

pub returns : goal.returns
returns c =
    let a = c.args in
    let proof : (items : Items) (s : LuaState) (left : ℕ)
    → Goes items a.frames.now.items (targets_plan items (a.first ∷ a.rest.now) a.all.now a.values.now a.scope a.held) s left
    c.push.new.self.items (steps.Enter (jobs.Target a.first a.scope)) s left = λ items s left.
    enters items a.frames.now.items c.push.new.self.items (frames.All (alls.Target a.rest a.all a.values a.scope a.held))
    (jobs.Target a.first a.scope) s left c.in_ok-push.ensures.items in
    record { means = proof }
