use Rattle.std.proofs.Common.{◌≡◌, ◌++◌, drop}
use Rattle.tac_copies.specs.Kept.{blocks_reads}
use Rattle.tac_copies.proofs.reads.push_blocks.Given as goal

-- with those of the blocks that are left, all are there
abbrev pub invariant-loop-block : goal.invariant-loop-block
invariant-loop-block l = l.reads.items ++ blocks_reads (drop l.block-index l.blocks) ≡ l.initial.reads.items ++ blocks_reads l.blocks
