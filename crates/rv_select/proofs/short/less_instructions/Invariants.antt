use Rattle.std.proofs.Common.{◌≡◌, ◌-◌, ◌^◌, ◌≤◌, drop, sum_by}
use Rattle.tac_form.specs.Weights.{words_of}
use Rattle.rv_select.proofs.short.less_instructions.Given as goal

-- behind those that are left, what is left is the same
abbrev pub invariant-loop-instruction : goal.invariant-loop-instruction
invariant-loop-instruction l = (l.rest - sum_by words_of (drop l.instruction-index l.instructions) ≡ l.initial.rest - sum_by words_of l.instructions) × (l.rest ≤ 2 ^ 17)
