-- The stage: layers of jobs, which have what bodies are typed in, and calls of Terra functions by Lua code.
use Rattle.std.specs.Prelude.{ℕ, Option}
use Rattle.tl_base.specs.Layer.{State, Meaning}
use Rattle.stage_form.specs.Stage.{Stage, Final, staged}
use Rattle.stage_form.specs.Within.{Fitting, within}
use Rattle.tl_tree.specs.Code.{Items}
use Rattle.check_model.specs.declared.question.CheckAnswer.{CheckAnswer}
use Rattle.check_model.specs.declared.question.CheckAnswer.TheVariants.{Go}
use Rattle.check_model.specs.Typing.{TypingState}
use Rattle.stage_check.specs.declared.jobs.Asked.{Asked}
use Rattle.stage_check.specs.declared.jobs.Asked.TheVariants as asked
use Rattle.stage_check.specs.declared.jobs.Job.{Job}
use Rattle.stage_check.specs.declared.jobs.JobEnd.{JobEnd}
use Rattle.stage_check.specs.Layers.{job_meaning, answer_of}
use Rattle.stage_model.specs.Calls.{called}
use Rattle.stage_model.specs.World.{with_typing}
pub use Rattle.stage_model.specs.World.{TerraRun, StagingState}

-- ---- what each question means

-- jobs have what bodies are typed in, and the runs stay while they work
abbrev pub checking_fitting : Fitting StagingState TypingState Asked Asked CheckAnswer CheckAnswer JobEnd JobEnd
checking_fitting = record { part = λ w. w.typing; with_part = with_typing; question = λ q. q; answer = λ a. a; end = λ e. e }

abbrev pub meaning : Items → Asked → Meaning StagingState Asked CheckAnswer JobEnd
meaning items (asked.Job job) = within checking_fitting (job_meaning items job)
meaning items (asked.Terra f vs at) = called f vs at

-- ---- the stage

abbrev pub stage : Items → Stage StagingState Asked CheckAnswer JobEnd
stage items = record { meaning = meaning items; go = Go; answer_of = answer_of }

-- what a job comes to
abbrev pub job_staged : Items → ℕ → Job → State StagingState → Option (Final StagingState JobEnd)
job_staged items n job s = staged (stage items) n (asked.Job job) s
