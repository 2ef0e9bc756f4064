use Rattle.tl_base.specs.Layer.{state}
use Rattle.lua_model.specs.declared.job.LuaJob.TheVariants.{Chunk}
use Rattle.stage_library.specs.declared.tasks.Task.TheVariants.{Evaluate}
use Rattle.stage_check.specs.declared.jobs.Job.TheVariants as jobs
use Rattle.stage_model.specs.Stage.{job_staged}
use Rattle.stage_model.specs.Staging.{begun, after_check, by_mode}
use Rattle.stage_model.proofs.Checking.{staged-more, after-more}
use Rattle.stage_model.proofs.Outcomes.{by_mode-more, carried}
use Rattle.stage_model.proofs.law.larger_changes_nothing.Goals as goal

pub returns : goal.returns
returns c = λ items place mode n m units memory out is more.
    let job = jobs.Stage (Evaluate Chunk) in
    let s = state (begun memory) units in
    let here = job_staged items n job s in
    let there = job_staged items m job s in
    carried (after_check here (by_mode mode items n place)) (after_check there (by_mode mode items m place)) out
    (λ final k.
    after-more here there (by_mode mode items n place) (by_mode mode items m place)
    (λ o reached. staged-more items n m job s o reached more)
    (λ e next o reached. by_mode-more mode items n m place e next o reached more) final k) is
