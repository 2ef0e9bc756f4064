use Rattle.std.proofs.Common.{◌≡◌, ◌-◌, ◌^◌, ◌≤◌, drop, sum_by}
use Rattle.tac_form.specs.Weights.{received}
use Rattle.rv_select.proofs.short.less_parameters.Given as goal

-- behind those that are left, what is left is the same
abbrev pub invariant-loop-parameter : goal.invariant-loop-parameter
invariant-loop-parameter l = (l.rest - sum_by received (drop l.parameter-index l.parameters) ≡ l.initial.rest - sum_by received l.parameters) × (l.rest ≤ 2 ^ 17)
