-- What steps do that push no frame: whatever the frames below, a plan is that step.
use Rattle.std.specs.Prelude.{ℕ, List}
use Rattle.tl_base.specs.Layer.{state}
use Rattle.tl_base.specs.declared.machine.Step.{Step}
use Rattle.tl_base.specs.Machine.{GoesOn}
use Rattle.tl_tree.specs.Code.{Items}
use Rattle.lua_table.specs.LuaState.{LuaState}
use Rattle.lua_model.specs.declared.job.Job.{Job}
use Rattle.lua_model.specs.declared.end.End.{End}
use Rattle.lua_model.specs.declared.question.LuaQuestion.{LuaQuestion}
use Rattle.lua_model.specs.Plans.{LuaPlan}
use Rattle.lua_eval.specs.declared.frame.LuaFrame.{LuaFrame}
use Rattle.lua_eval.specs.Frames.{lua_rules}

abbrev pub LuaStep : Type 0
LuaStep = Step Job End LuaQuestion

-- frames and a plan do what other frames and a step do
abbrev pub Goes :
    Items → List LuaFrame → LuaPlan → LuaState → ℕ → List LuaFrame → LuaStep → LuaState → ℕ → Type 0
Goes items fs plan s left fs2 step s2 left2 = GoesOn (lua_rules items) fs plan (state s left) fs2 step (state s2 left2)

-- a plan does what a step does, over any frames
abbrev pub Does : Items → LuaPlan → LuaState → ℕ → LuaStep → LuaState → ℕ → Type 0
Does items plan s left step s2 left2 = (fs : List LuaFrame) → Goes items fs plan s left fs step s2 left2
