use Rattle.lua_table.specs.LuaState.{LuaState}
use Rattle.lua_eval.specs.Steps.{Goes}
use Rattle.std.proofs.Common.{sym, refl, ◌∙◌, [], ◌∷◌, ◌++◌, ℕ}
use Rattle.lua_model.specs.Plans.{value_of}
use Rattle.lua_model.specs.Assignments.{define_in, define}
use Rattle.tl_tree.specs.Code.{if_any, Items}
use Rattle.lua_eval.proofs.Below.{moved}
use Rattle.lua_eval.proofs.Doing.{enters}
use Rattle.lua_eval.proofs.Turning.{if_true, if_false}
use Rattle.lua_eval.proofs.Listing.{define_by}
use Rattle.lua_eval.specs.Paths.{is_end}
use Rattle.lua_eval.specs.declared.frame.LuaFrame.TheVariants as frames
use Rattle.lua_eval.specs.declared.frame.OneFrame.TheVariants as ones
use Rattle.lua_eval.specs.declared.frame.TargetFrame.TheVariants as of_target
use Rattle.lua_model.specs.declared.job.Job.TheVariants as jobs
use Rattle.tl_base.specs.declared.machine.Step.TheVariants as steps
use Rattle.lua_eval.proofs.assignments.define_from.Goals as goal

pub returns-then-is_end : goal.returns-then-is_end
returns-then-is_end c =
    let a = c.args in
    let proof : (items : Items) (s : LuaState) (left : ℕ) → Goes items a.frames.now.items (define items (a.first ∷ (a.rest.now ++ if_any a.method)) a.function a.scope) s left
    c.define_first.new.frames.items c.in_ok-step.step s left = λ items s left.
    let ns = a.rest.now ++ if_any a.method in
    moved items a.frames.now.items c.define_first.new.frames.items (define items (a.first ∷ ns) a.function a.scope)
    (define items (a.first ∷ []) a.function a.scope) s s s left left c.in_ok-step.step
    (define_by items a.first ns a.function a.scope
    ∙ if_true (is_end ns) (define items (a.first ∷ []) a.function a.scope)
    (value_of a.first a.scope (λ object. define_in items ns a.function a.scope object)) (sym c.is_end.ensures ∙ c.if-is_end.true)) refl
    (c.in_ok-step.ensures.means items s left) in
    record { means = proof }

pub returns : goal.returns
returns c =
    let a = c.args in
    let proof : (items : Items) (s : LuaState) (left : ℕ) → Goes items a.frames.now.items (define items (a.first ∷ (a.rest.now ++ if_any a.method)) a.function a.scope) s left
    c.push.new.self.items (steps.Enter (jobs.Expression a.first a.scope)) s left = λ items s left.
    let ns = a.rest.now ++ if_any a.method in
    let frame = frames.One (ones.Target (of_target.Path a.rest a.method a.function a.scope)) in
    moved items a.frames.now.items c.push.new.self.items (define items (a.first ∷ ns) a.function a.scope)
    (value_of a.first a.scope (λ object. define_in items ns a.function a.scope object)) s s s left left
    (steps.Enter (jobs.Expression a.first a.scope))
    (define_by items a.first ns a.function a.scope
    ∙ if_false (is_end ns) (define items (a.first ∷ []) a.function a.scope)
    (value_of a.first a.scope (λ object. define_in items ns a.function a.scope object)) (sym c.is_end.ensures ∙ c.if-is_end.false)) refl
    (enters items a.frames.now.items c.push.new.self.items frame (jobs.Expression a.first a.scope) s left c.in_ok-push.ensures.items) in
    record { means = proof }
