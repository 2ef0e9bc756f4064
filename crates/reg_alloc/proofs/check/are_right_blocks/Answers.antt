use Rattle.std.proofs.Common.{sym}
use Rattle.reg_alloc.proofs.Places.{blocks-more}
use Rattle.reg_alloc.proofs.check.are_right_blocks.Goals as goal

pub loop-block-preserved : goal.loop-block-preserved
loop-block-preserved c =
    blocks-more c.args.homes.now c.args.rows.now c.args.graph.now c.loop-block.block-index c.block-item.result c.loop-block-test.true (sym c.block-item.is)
    (c.in_ok-is_right_block.ensures.0 c.if-not-branch.false) c.loop-block.invariant
