use Rattle.std.proofs.Common.{◌≡◌, drop}
use Rattle.back_end.specs.Worklist.{with_blocks}
use Rattle.back_end.proofs.worklist.add_blocks.Given as goal

abbrev pub invariant-loop-block : goal.invariant-loop-block
invariant-loop-block l = with_blocks l.list.keys (drop l.block-index l.blocks) ≡ with_blocks l.fn.list.keys l.blocks
