-- How a check goes on with the end that it waited for.
use Rattle.tl_base.specs.declared.ids.FnId.{FnId}
use Rattle.tl_base.specs.Machine.{Rules}
use Rattle.tl_base.specs.Plan.{Give}
use Rattle.exotype.specs.World.{StageState}
use Rattle.check_model.specs.declared.job.CheckJob.{CheckJob}
use Rattle.check_model.specs.declared.end.CheckEnd.{CheckEnd}
use Rattle.check_model.specs.declared.end.CheckEnd.TheVariants as ends
use Rattle.check_model.specs.declared.question.CheckQuestion.{CheckQuestion}
use Rattle.check_model.specs.declared.question.CheckAnswer.{CheckAnswer}
use Rattle.check_model.specs.declared.question.CheckAnswer.TheVariants as answers
use Rattle.check_model.specs.Checks.{CheckPlan, check_job, check_first, past}
use Rattle.check_flow.specs.declared.check_frame.CheckFrame.{CheckFrame}
pub use Rattle.check_model.specs.Bodies.{is_go}

-- behind the body of the function that was taken
abbrev pub after : CheckFrame → CheckEnd → CheckPlan
after f (ends.Refused why) = Give (ends.Refused why)
after f ends.Done = past f.queue f.place f.function

-- the end that an answer gives
abbrev pub reply : CheckAnswer → CheckEnd
reply (answers.Refused why) = ends.Refused why
reply _ = ends.Done

abbrev pub close : CheckEnd → CheckEnd
close r = r

-- the language of checks
abbrev pub check_rules : Rules FnId CheckJob StageState CheckQuestion CheckAnswer CheckEnd CheckEnd CheckFrame
check_rules = record { first = check_first; plan = check_job; after = after; reply = reply; close = close }
