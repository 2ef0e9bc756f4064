use Rattle.std.proofs.Common.{◌≡◌, ◌-◌, ◌^◌, ◌≤◌, drop, sum_by}
use Rattle.tac_form.specs.Weights.{block_words}
use Rattle.rv_select.proofs.short.less_blocks.Given as goal

-- behind those that are left, what is left is the same
abbrev pub invariant-loop-block : goal.invariant-loop-block
invariant-loop-block l = (l.rest - sum_by block_words (drop l.block-index l.blocks) ≡ l.initial.rest - sum_by block_words l.blocks) × (l.rest ≤ 2 ^ 17)
