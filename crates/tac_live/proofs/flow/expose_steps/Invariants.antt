use Rattle.std.proofs.Common.{◌≡◌, drop}
use Rattle.tac_live.specs.Flows.{seen, steps_exposed}
use Rattle.tac_live.proofs.flow.expose_steps.Given as goal

-- with the steps that are left, all are seen
abbrev pub invariant-loop-step : goal.invariant-loop-step
invariant-loop-step l =
    steps_exposed (drop l.step-index l.steps) l.b l.turn (seen l.marks.items l.groups.items)
    ≡ steps_exposed l.steps l.b l.turn (seen l.initial.marks.items l.initial.groups.items)
