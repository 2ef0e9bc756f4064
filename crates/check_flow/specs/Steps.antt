-- What the steps of checks and of layouts do.
use Rattle.std.specs.Prelude.{ℕ, List}
use Rattle.tl_base.specs.Layer.{state}
use Rattle.tl_base.specs.declared.machine.Step.{Step}
use Rattle.tl_base.specs.Machine.{GoesOn}
use Rattle.exotype.specs.World.{StageState}
use Rattle.check_model.specs.declared.job.CheckJob.{CheckJob}
use Rattle.check_model.specs.declared.end.CheckEnd.{CheckEnd}
use Rattle.check_model.specs.declared.question.CheckQuestion.{CheckQuestion}
use Rattle.check_model.specs.declared.question.LayoutQuestion.{LayoutQuestion}
use Rattle.check_model.specs.declared.question.CheckAnswer.{CheckAnswer}
use Rattle.check_model.specs.Checks.{CheckPlan}
use Rattle.check_model.specs.Layouts.{LayoutPlan}
use Rattle.check_flow.specs.declared.check_frame.CheckFrame.{CheckFrame}
use Rattle.check_flow.specs.declared.layout_frame.LayoutFrame.{LayoutFrame}
use Rattle.check_flow.specs.CheckFrames.{check_rules}
use Rattle.check_flow.specs.LayoutFrames.{layout_rules}

-- frames and a plan do what other frames and a step do
abbrev pub ChecksOn :
    List CheckFrame → CheckPlan → StageState → ℕ → List CheckFrame → Step CheckJob CheckEnd CheckQuestion → StageState → ℕ → Type 0
ChecksOn fs plan w left fs2 step w2 left2 = GoesOn check_rules fs plan (state w left) fs2 step (state w2 left2)

abbrev pub LaysOn :
    List LayoutFrame → LayoutPlan → StageState → ℕ → List LayoutFrame → Step (Unit {0}) CheckAnswer LayoutQuestion → StageState → ℕ → Type 0
LaysOn fs plan w left fs2 step w2 left2 = GoesOn layout_rules fs plan (state w left) fs2 step (state w2 left2)
