use Rattle.std.proofs.Common.{ℕ, ap, refl, [], ◌∷◌, Option}
use Rattle.tl_base.specs.declared.ids.NodeId.{NodeId}
use Rattle.tl_tree.specs.Code.{Items, if_any}
use Rattle.lua_table.specs.LuaState.{LuaState}
use Rattle.lua_model.specs.Assignments.{define}
use Rattle.lua_eval.specs.Steps.{Goes}
use Rattle.lua_eval.proofs.Below.{moved}
use Rattle.lua_eval.proofs.assignments.define_alone.Goals as goal

pub returns-in_ok-step-in-Some : goal.returns-in_ok-step-in-Some
returns-in_ok-step-in-Some c =
    let a = c.args in
    let last = c.in-Some.last in
    let proof : (items : Items) (s : LuaState) (left : ℕ) → Goes items a.frames.now.items
    (define items (if_any a.method) a.function a.scope) s left c.define_first.new.frames.items c.in_ok-step-in-Some.step s left = λ items s left.
    moved items a.frames.now.items c.define_first.new.frames.items (define items (if_any a.method) a.function a.scope)
    (define items (last ∷ []) a.function a.scope) s s s left left c.in_ok-step-in-Some.step
    (ap (λ (m : Option NodeId). define items (if_any m) a.function a.scope) c.in-Some.is) refl
    (c.in_ok-step-in-Some.ensures.means items s left) in
    record { means = proof }
