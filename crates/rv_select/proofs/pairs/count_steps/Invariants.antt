use Rattle.std.proofs.Common.{◌≡◌, drop}
use Rattle.rv_select.specs.Pairs.{counted_steps}
use Rattle.rv_select.proofs.pairs.count_steps.Given as goal

-- with those that are left, all are counted
abbrev pub invariant-loop-step : goal.invariant-loop-step
invariant-loop-step l = counted_steps l.reads (drop l.step-index l.steps) ≡ counted_steps l.initial.reads l.steps
