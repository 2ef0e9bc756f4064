use Rattle.std.proofs.Common.{◌≡◌, ◌≤◌, length, drop}
use Rattle.terra_term.specs.Sizing.{block_at}
use Rattle.terra_term.proofs.sizing.block_size.Given as goal

abbrev pub invariant-loop-left : goal.invariant-loop-left
invariant-loop-left l = (l.left ≤ length l.block) × (l.size ≡ block_at l.before (drop l.left l.block))

abbrev pub decreases-loop-left : goal.decreases-loop-left
decreases-loop-left l = l.left
