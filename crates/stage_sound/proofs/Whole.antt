-- Each layer of the stage holds, so what a question comes to is what it promises.
use Rattle.std.proofs.Common.{◌≡◌, ℕ, Some}
use Rattle.tl_base.specs.Layer.{State, Given}
use Rattle.stage_form.specs.Holding.{Holds, Comes, LayersHold}
use Rattle.stage_form.specs.Stage.{Finished, staged}
use Rattle.stage_form.specs.Within.{given_part}
use Rattle.tl_tree.specs.Code.{Items}
use Rattle.check_model.specs.declared.question.CheckAnswer.{CheckAnswer}
use Rattle.check_model.specs.Typing.{TypingState}
use Rattle.stage_check.specs.declared.jobs.Asked.{Asked}
use Rattle.stage_check.specs.declared.jobs.Asked.TheVariants as asked
use Rattle.stage_check.specs.declared.jobs.Job.{Job}
use Rattle.stage_check.specs.declared.jobs.Job.TheVariants as jobs
use Rattle.stage_check.specs.declared.jobs.JobEnd.{JobEnd}
use Rattle.stage_check.specs.Layers.{job_meaning}
use Rattle.stage_model.specs.Stage.{StagingState, checking_fitting, stage}
use Rattle.stage_sound.specs.Jobs.{Begins, Leaves, Came, Begun, Left}
use Rattle.stage_sound.proofs.Feeding.{staged-holds}
use Rattle.stage_sound.proofs.Layers.{LayersKeep}
use Rattle.stage_sound.proofs.OfChecks.{JobHolds, check-holds, layout-holds, body-holds, result-holds}
use Rattle.stage_sound.proofs.OfTasks.{stage-holds}
use Rattle.stage_sound.proofs.OfAsking.{call-holds, export-holds}
use Rattle.stage_sound.proofs.OfCalls.{terra-holds}
use Rattle.stage_sound.proofs.Parts.{within-holds}

module _ (items : Items) (k : LayersKeep items) where
  job-holds : (job : Job) (first : Given TypingState CheckAnswer) → Begins (asked.Job job) first.state.world →
      JobHolds items k job first
  job-holds (jobs.Stage task) first begin = stage-holds items k task first begin
  job-holds (jobs.Call call) first begin = call-holds items k call first begin
  job-holds (jobs.Export place) first begin = export-holds items k place first begin
  job-holds (jobs.Check f) first begin = check-holds items k f first begin
  job-holds (jobs.Body f) first begin = body-holds items k f first begin
  job-holds (jobs.Result f) first begin = result-holds items k f first begin
  job-holds (jobs.Layout t at) first begin = layout-holds items k t at first begin

  -- the runs stay beside what bodies are typed in
  pub layers-hold : LayersHold (stage items) Begun Left
  layers-hold (asked.Job job) first begin =
      within-holds checking_fitting Begins Came (Leaves (asked.Job job) first.state.world.typing) Begun
      (λ q s next. Comes (stage items) Left q s next) (Left (asked.Job job) first.state.world)
      (λ w. Unit {0}) (λ w q p b h. h) (λ w end p b h. h) (λ w q s next b may h. (h, tt))
      (job_meaning items job) first tt (job-holds job (given_part checking_fitting first) begin)
  layers-hold (asked.Terra f vs at) first begin = terra-holds items k f vs at first begin

  -- what a question comes to
  pub question-leaves : (n : ℕ) (question : Asked) (s : State StagingState) (end : JobEnd) (t : State StagingState) →
      Begun question s.world → staged (stage items) n question s ≡ Some (Finished end t) → Left question s.world end t.world
  question-leaves n question s end t begin is = staged-holds (stage items) Begun Left layers-hold n question s begin end t is
