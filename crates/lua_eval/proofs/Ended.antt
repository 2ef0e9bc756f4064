-- Plans that end at once: they gain no units, and do so over any frames.
use Rattle.std.proofs.Common.{arith, ◌≡◌, ℕ, ◌+◌, ◌≤◌, List, [], ap}
use Rattle.tl_base.specs.declared.machine.Step.TheVariants.{Return}
use Rattle.tl_base.specs.Layer.{state}
use Rattle.tl_base.specs.Plan.{Gives, IsWithin}
use Rattle.tl_base.specs.Machine.{plug}
use Rattle.tl_base.proofs.Plans.{plan_run-within}
use Rattle.tl_tree.specs.Code.{Items}
use Rattle.lua_table.specs.LuaState.{LuaState}
use Rattle.lua_model.specs.declared.end.End.{End}
use Rattle.lua_model.specs.declared.question.LuaQuestion.{LuaQuestion}
use Rattle.lua_model.specs.declared.question.LuaAnswer.{LuaAnswer}
use Rattle.lua_model.specs.Plans.{LuaPlan}
use Rattle.lua_model.specs.Meaning.{LuaGiven, job_plan}
use Rattle.lua_eval.specs.declared.frame.LuaFrame.{LuaFrame}
use Rattle.lua_eval.specs.Frames.{lua_rules}
use Rattle.lua_eval.specs.Steps.{Goes}

-- a plan that ends at once never gains units
pub plan_never_gains : (items : Items) (p : LuaPlan) (r : End) (s s2 : LuaState) (left left2 : ℕ)
    → Goes items [] p s left [] (Return r) s2 left2 → left2 ≤ left
plan_never_gains items p r s s2 left left2 h =
    let none : List LuaGiven = [] in
    let within = plan_run-within (job_plan items) p (state s left) none in
    let ended : IsWithin {W = LuaState} {Q = LuaQuestion} {A = LuaAnswer} {R = End} (left + 0) (Gives r (state s2 left2) none) = rw (h none) at within in
    omega (arith, ended)

-- a plan that ends at once does so over any frames
pub over_frames : (items : Items) (fs : List LuaFrame) (p : LuaPlan) (r : End) (s t : LuaState) (left left2 : ℕ)
    → t ≡ s → Goes items [] p s left [] (Return r) s left2 → Goes items fs p s left fs (Return r) t left2
over_frames items fs p r s t left left2 same g = rw same (λ later. ap (plug (lua_rules items) fs) (g later))
