use Rattle.reg_alloc.specs.Homes.{AreBlocksRight}
use Rattle.reg_alloc.proofs.check.are_right_blocks.Given as goal

abbrev pub invariant-loop-block : goal.invariant-loop-block
invariant-loop-block l = AreBlocksRight l.homes l.rows l.graph l.block-index
