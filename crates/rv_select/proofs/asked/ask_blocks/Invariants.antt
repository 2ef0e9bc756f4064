use Rattle.std.proofs.Common.{◌≡◌, ◌++◌, drop}
use Rattle.std.specs.List.{flat_map}
use Rattle.rv_select.specs.Asked.{block_asks}
use Rattle.rv_select.proofs.asked.ask_blocks.Given as goal

-- with the blocks to come, all is asked for
abbrev pub invariant-loop-block : goal.invariant-loop-block
invariant-loop-block l =
    l.asked.items ++ flat_map (block_asks l.reads) (drop l.block-index l.blocks) ≡ l.fn.asked.items ++ flat_map (block_asks l.reads) l.blocks
