-- Layers that are suspended, and what each turn keeps.
use Rattle.std.specs.Prelude.{◌≡◌, false}
use Rattle.tl_base.specs.Layer.{State, Meaning, Given}
use Rattle.stage_form.specs.Within.{given_part, within}
use Rattle.check_model.specs.declared.question.CheckAnswer.{CheckAnswer}
use Rattle.check_expr.specs.Frames.{is_go}
use Rattle.stage_check.specs.declared.jobs.Asked.{Asked}
use Rattle.stage_check.specs.declared.jobs.JobEnd.{JobEnd}
use Rattle.stage_check.specs.Keeping.{KeepsChecking}
use Rattle.stage_check.specs.Layers.{rest as job_rest, Fits as JobFits, answer_of}
use Rattle.stage_model.specs.Stage.{StagingState, checking_fitting}
use Rattle.stage_sound.specs.Jobs.{Left}
use Rattle.stage_loop.specs.Calls.{calling_rest, CallingFits}
use Rattle.stage_loop.specs.declared.staged.Layered.{Layered}
use Rattle.stage_loop.specs.declared.staged.Layered.TheVariants as layers

abbrev pub StagingGiven : Type 0
StagingGiven = Given StagingState CheckAnswer

-- what remains to be done by a layer
abbrev pub rest : Layered → Meaning StagingState Asked CheckAnswer JobEnd
rest (layers.Job layer) = within checking_fitting (job_rest layer)
rest (layers.Calling calling) = calling_rest calling

abbrev pub Fits : Layered → StagingGiven → Type 0
Fits (layers.Job layer) next = JobFits layer (given_part checking_fitting next)
Fits (layers.Calling calling) next = CallingFits calling next

-- an answer to a question is what an end of its layer is, and comes in a world that the layer left
abbrev pub Follows : Asked → State StagingState → StagingGiven → Type 0
Follows question s next =
    (is_go next.answer ≡ false)
    × (end : JobEnd) × ((next.answer ≡ answer_of end) × Left question s.world end next.state.world)

-- each turn keeps what a turn of a job keeps
abbrev pub Keeps : StagingState → StagingState → Type 0
Keeps old new = KeepsChecking old.typing new.typing
