use Rattle.std.proofs.Common.{ℕ, refl}
use Rattle.tl_tree.specs.Code.{Items}
use Rattle.lua_value.specs.declared.value.Value.TheVariants.{Nil}
use Rattle.lua_table.specs.LuaState.{LuaState}
use Rattle.lua_model.specs.Assignments.{held, target_of}
use Rattle.lua_eval.specs.Steps.{Goes}
use Rattle.lua_eval.proofs.Below.{moved}
use Rattle.lua_eval.proofs.Targeting.{other_target}
use Rattle.lua_eval.proofs.statements.target_of.Goals as goal

pub returns-in_ok-step-in_default : goal.returns-in_ok-step-in_default
returns-in_ok-step-in_default c =
    let a = c.args in
    let fs = a.frames.now.items in
    let e = a.expression.now in
    let proof : (items : Items) (s : LuaState) (left : ℕ) → Goes items fs (target_of items e a.scope) s left
    fs c.in_ok-step-in_default.step s left = λ items s left.
    moved items fs fs (target_of items e a.scope) (held Nil Nil) s s s left left c.in_ok-step-in_default.step
    (other_target items e a.scope c.in_default.not-Index c.in_default.not-Select) refl
    (c.in_ok-step-in_default.ensures.means items s left fs) in
    record { means = proof }
