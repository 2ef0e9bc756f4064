use Rattle.std.proofs.Common.{◌≡◌, drop}
use Rattle.rv_select.specs.Pairs.{counted_blocks}
use Rattle.rv_select.proofs.pairs.count_blocks.Given as goal

-- with those that are left, all are counted
abbrev pub invariant-loop-block : goal.invariant-loop-block
invariant-loop-block l = counted_blocks l.reads (drop l.block-index l.blocks) ≡ counted_blocks l.initial.reads l.blocks
