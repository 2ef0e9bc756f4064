use Rattle.std.proofs.Common.{◌≡◌, drop}
use Rattle.std.specs.List.{list_any}
use Rattle.tac_copies.specs.Taken.{block_reads}
use Rattle.tac_copies.proofs.taking.blocks_read.Given as goal

-- it is so of all if it is so of those that are left
abbrev pub invariant-loop-block : goal.invariant-loop-block
invariant-loop-block l = list_any (block_reads l.t) (drop l.block-index l.blocks) ≡ list_any (block_reads l.t) l.blocks
