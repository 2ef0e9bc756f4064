-- What a step does by itself: it returns an end, enters a job or asks, below a frame or with nothing to wait for it.
use Rattle.std.proofs.Common.{◌≡◌, ℕ, ◌-◌, ◌≤◌, ◌<◌, List, [], ◌∷◌, ◌++◌, refl, sym, ap, ◌∙◌}
use Rattle.tl_base.specs.Layer.{State, state}
use Rattle.tl_base.specs.declared.machine.Step.TheVariants.{Enter, Return, Stop, Spent}
use Rattle.tl_base.specs.Plan.{Run, Give, Do, AskFor, run, run_job, then_do}
use Rattle.tl_base.specs.Machine.{plug, plan_run, ask}
use Rattle.tl_base.proofs.Plans.{run_job-is, paid-enough, paid-short}
use Rattle.tl_base.proofs.Steps.{plug-push, then_do-give}
use Rattle.tl_tree.specs.Code.{Items}
use Rattle.lua_table.specs.LuaState.{LuaState}
use Rattle.lua_model.specs.declared.job.Job.{Job}
use Rattle.lua_model.specs.declared.end.End.{End}
use Rattle.lua_model.specs.declared.question.LuaQuestion.{LuaQuestion}
use Rattle.lua_model.specs.declared.question.LuaAnswer.{LuaAnswer}
use Rattle.lua_model.specs.Plans.{LuaPlan, reply}
use Rattle.lua_model.specs.Meaning.{LuaGiven, job_plan}
use Rattle.lua_eval.specs.declared.frame.LuaFrame.{LuaFrame}
use Rattle.lua_eval.specs.Frames.{after, lua_rules}
use Rattle.lua_eval.specs.Steps.{LuaStep, Goes}
use Rattle.lua_eval.proofs.Below.{jobs_of, below}

pub returns : (items : Items) (fs : List LuaFrame) (r : End) (s : LuaState) (left : ℕ)
    → Goes items fs (Give r) s left fs (Return r) s left
returns items fs r s left = λ later. refl

-- a job with nothing behind it
pub enters_alone : (items : Items) (fs : List LuaFrame) (job : Job) (s : LuaState) (left : ℕ)
    → Goes items fs (Do job Give) s left fs (Enter job) s left
enters_alone items fs job s left = λ later.
    ap (plug (lua_rules items) fs) (then_do-give (run_job (job_plan items) job (state s left) later))

-- a job below a frame
pub enters : (items : Items) (fs pushed : List LuaFrame) (f : LuaFrame) (job : Job) (s : LuaState) (left : ℕ)
    → pushed ≡ fs ++ f ∷ [] → Goes items fs (Do job (after items f)) s left pushed (Enter job) s left
enters items fs pushed f job s left is = λ later.
    sym (plug-push (lua_rules items) fs f (run_job (job_plan items) job (state s left) later))
    ∙ ap (λ (gs : List LuaFrame). plug (lua_rules items) gs (run_job (job_plan items) job (state s left) later)) (sym is)

-- a job below a frame, which is done alone over it
pub job_below : (items : Items) (fs pushed fs2 : List LuaFrame) (f : LuaFrame) (job : Job) (s s2 : LuaState) (left left2 : ℕ) (step : LuaStep)
    → pushed ≡ fs ++ f ∷ [] → Goes items pushed (Do job Give) s left fs2 step s2 left2
    → Goes items fs (Do job (after items f)) s left fs2 step s2 left2
job_below items fs pushed fs2 f job s s2 left left2 step is g =
    below items fs pushed fs2 f (Do job (after items f)) (Do job Give) s s2 left left2 step is
    (λ later. ap (λ (o : Run LuaState LuaQuestion LuaAnswer End). then_do o (λ r. run (jobs_of items) (after items f r)))
    (sym (then_do-give (run_job (job_plan items) job (state s left) later)))) g

-- a job that is entered with its unit is begun: its plan is done over the same frames
pub begins : (items : Items) (fs pushed fs2 : List LuaFrame) (p : LuaPlan) (job : Job) (s s2 : LuaState) (left left2 : ℕ) (step : LuaStep)
    → Goes items fs p s left pushed (Enter job) s left → 1 ≤ left
    → Goes items pushed (job_plan items job) s (left - 1) fs2 step s2 left2
    → Goes items fs p s left fs2 step s2 left2
begins items fs pushed fs2 p job s s2 left left2 step entered enough g = λ later.
    entered later
    ∙ ap (plug (lua_rules items) pushed) (run_job-is (job_plan items) job (state s left) later
    ∙ paid-enough 1 (state s left) (λ t. run (jobs_of items) (job_plan items job) t later) enough)
    ∙ g later

-- and without its unit it stops there
pub lacks : (items : Items) (fs pushed : List LuaFrame) (p : LuaPlan) (job : Job) (s : LuaState) (left : ℕ)
    → Goes items fs p s left pushed (Enter job) s left → left < 1
    → Goes items fs p s left pushed Spent s left
lacks items fs pushed p job s left entered short = λ later.
    entered later
    ∙ ap (plug (lua_rules items) pushed) (run_job-is (job_plan items) job (state s left) later
    ∙ paid-short 1 (state s left) (λ t. run (jobs_of items) (job_plan items job) t later) short)

asked : (items : Items) (f : LuaFrame) (q : LuaQuestion) (s : State LuaState) (later : List LuaGiven)
    → run (jobs_of items) (AskFor q (λ a. after items f (reply a))) s later
    ≡ then_do (plan_run (lua_rules items) (ask (lua_rules items) q) s later) (λ r. run (jobs_of items) (after items f r))
asked items f q s [] = refl
asked items f q s (a ∷ later) = refl

-- a question below a frame
pub asks : (items : Items) (fs pushed : List LuaFrame) (f : LuaFrame) (q : LuaQuestion) (s : LuaState) (left : ℕ)
    → pushed ≡ fs ++ f ∷ [] → Goes items fs (AskFor q (λ a. after items f (reply a))) s left pushed (Stop q) s left
asks items fs pushed f q s left is = λ later.
    ap (plug (lua_rules items) fs) (asked items f q (state s left) later)
    ∙ sym (plug-push (lua_rules items) fs f (plan_run (lua_rules items) (ask (lua_rules items) q) (state s left) later))
    ∙ ap (λ (gs : List LuaFrame). plug (lua_rules items) gs (plan_run (lua_rules items) (ask (lua_rules items) q) (state s left) later)) (sym is)
