use Rattle.std.proofs.Common.{◌≡◌, take, map}
use Rattle.tac_copies.specs.Directed.{directed_block}
use Rattle.tac_copies.specs.Kept.{told_once}
use Rattle.tac_copies.proofs.directing.directed_blocks.Given as goal

abbrev pub invariant-loop-block : goal.invariant-loop-block
invariant-loop-block l = l.made.items ≡ map (directed_block (told_once l.once)) (take l.block-index l.blocks)
