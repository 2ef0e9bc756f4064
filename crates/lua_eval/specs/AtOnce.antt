-- What is done at once, without a frame.
use Rattle.std.specs.Prelude.{◌≡◌, ℕ, List}
use Rattle.tl_base.specs.Layer.{state}
use Rattle.tl_base.specs.Plan.{Gives, run, run_job}
use Rattle.tl_tree.specs.Code.{Items}
use Rattle.lua_table.specs.LuaState.{LuaState}
use Rattle.lua_model.specs.declared.job.Job.{Job}
use Rattle.lua_model.specs.declared.end.End.{End}
use Rattle.lua_model.specs.Plans.{LuaPlan}
use Rattle.lua_model.specs.Meaning.{LuaGiven, job_plan}

-- a job ends so, whatever the answers, and leaves so many units
abbrev pub EndsAtOnce : Items → Job → End → LuaState → ℕ → LuaState → ℕ → Type 0
EndsAtOnce items job r s left s2 left2 =
    (later : List LuaGiven) → run_job (job_plan items) job (state s left) later ≡ Gives r (state s2 left2) later

-- what remains of a plan, of which a part was done, is another plan
abbrev pub Becomes : Items → LuaPlan → LuaState → ℕ → LuaPlan → LuaState → ℕ → Type 0
Becomes items p s left q s2 left2 =
    (later : List LuaGiven) →
    run (run_job (job_plan items)) p (state s left) later ≡ run (run_job (job_plan items)) q (state s2 left2) later
