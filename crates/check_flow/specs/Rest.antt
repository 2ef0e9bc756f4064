-- What remains to be done by a check and by a layout that are suspended.
use Rattle.std.specs.Prelude.{◌≡◌, true}
use Rattle.tl_base.specs.Layer.{Meaning}
use Rattle.tl_base.specs.Machine.{rest_of, fits_waiting}
use Rattle.exotype.specs.World.{StageState}
use Rattle.check_model.specs.declared.end.CheckEnd.{CheckEnd}
use Rattle.check_model.specs.declared.end.LayoutEnd.{LayoutEnd}
use Rattle.check_model.specs.declared.question.CheckQuestion.{CheckQuestion}
use Rattle.check_model.specs.declared.question.LayoutQuestion.{LayoutQuestion}
use Rattle.check_model.specs.declared.question.CheckAnswer.{CheckAnswer}
use Rattle.check_model.specs.Checks.{CheckGiven}
use Rattle.check_model.specs.Layouts.{LayoutGiven}
use Rattle.check_flow.specs.declared.check.Check.{Check}
use Rattle.check_flow.specs.declared.layout.Layout.{Layout}
use Rattle.check_flow.specs.CheckFrames as checks
use Rattle.check_flow.specs.LayoutFrames as layouts

abbrev pub check_rest : Check → Meaning StageState CheckQuestion CheckAnswer CheckEnd
check_rest c = rest_of checks.check_rules c.machine.frames.items c.machine.waiting

abbrev pub layout_rest : Layout → Meaning StageState LayoutQuestion CheckAnswer LayoutEnd
layout_rest l = rest_of layouts.layout_rules l.machine.frames.items l.machine.waiting

-- only the first answer begins
abbrev pub CheckFits : Check → CheckGiven → Type 0
CheckFits c next = fits_waiting checks.is_go c.machine.waiting next.answer ≡ true

abbrev pub LayoutFits : Layout → LayoutGiven → Type 0
LayoutFits l next = fits_waiting layouts.is_go l.machine.waiting next.answer ≡ true
