-- What steps do.
use Rattle.std.specs.Prelude.{ℕ, List}
use Rattle.tl_base.specs.Layer.{state}
use Rattle.tl_base.specs.declared.machine.Step.{Step}
use Rattle.tl_base.specs.Machine.{GoesOn}
use Rattle.terra_term.specs.declared.typed.Typed.{Typed}
use Rattle.terra_term.specs.Held.{with_typed}
use Rattle.exotype.specs.World.{StageState, with_store}
use Rattle.check_model.specs.declared.job.BodyJob.{BodyJob}
use Rattle.check_model.specs.declared.end.PartEnd.{PartEnd}
use Rattle.check_model.specs.declared.question.BodyQuestion.{BodyQuestion}
use Rattle.check_model.specs.Typing.{TypingState}
use Rattle.check_model.specs.Plans.{BodyPlan}
use Rattle.check_expr.specs.declared.frame.BodyFrame.{BodyFrame}
use Rattle.check_expr.specs.Frames.{body_rules}

abbrev pub BodyStep : Type 0
BodyStep = Step BodyJob PartEnd BodyQuestion

-- frames and a plan do what other frames and a step do
abbrev pub Goes : List BodyFrame → BodyPlan → TypingState → ℕ → List BodyFrame → BodyStep → TypingState → ℕ → Type 0
Goes fs plan w left fs2 step w2 left2 = GoesOn body_rules fs plan (state w left) fs2 step (state w2 left2)

-- a plan does what a step does, over any frames
abbrev pub Does : BodyPlan → TypingState → ℕ → BodyStep → TypingState → ℕ → Type 0
Does plan w left step w2 left2 = (fs : List BodyFrame) → Goes fs plan w left fs step w2 left2

-- another world of the staging, with the same variables
abbrev pub with_stage : TypingState → StageState → TypingState
with_stage w stage = record w { stage = stage }

-- a typed node more
abbrev pub with_node : TypingState → Typed → TypingState
with_node w node = with_stage w (with_store w.stage (with_typed w.stage.store node))
