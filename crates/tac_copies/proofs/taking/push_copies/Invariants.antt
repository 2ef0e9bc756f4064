use Rattle.std.proofs.Common.{◌≡◌, ◌++◌, take}
use Rattle.tac_copies.proofs.taking.push_copies.Given as goal

abbrev pub invariant-loop-block : goal.invariant-loop-block
invariant-loop-block l = l.blocks.items ≡ l.initial.blocks.items ++ take l.block-index l.copied
