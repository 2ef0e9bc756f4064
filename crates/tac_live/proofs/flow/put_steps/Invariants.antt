use Rattle.std.proofs.Common.{◌≡◌, drop}
use Rattle.tac_live.specs.Flows.{steps_put}
use Rattle.tac_live.proofs.flow.put_steps.Given as goal

-- with the steps that are left, it is put in for all
abbrev pub invariant-loop-step : goal.invariant-loop-step
invariant-loop-step l = steps_put (drop l.step-index l.steps) l.b l.groups.items ≡ steps_put l.steps l.b l.initial.groups.items
