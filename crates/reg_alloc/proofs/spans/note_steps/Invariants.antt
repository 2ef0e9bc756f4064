use Rattle.std.proofs.Common.{◌≡◌, ◌+◌, drop}
use Rattle.reg_alloc.specs.Noted.{steps_noted}
use Rattle.reg_alloc.proofs.spans.note_steps.Given as goal

abbrev pub invariant-loop-step : goal.invariant-loop-step
invariant-loop-step l =
    (l.at ≡ l.place + l.step-index)
    × (steps_noted (drop l.step-index l.steps) l.at l.spans.items ≡ steps_noted l.steps l.place l.initial.spans.items)
