use Rattle.std.proofs.Common.{◌≡◌, ◌≤◌, length, drop}
use Rattle.terra_term.specs.Sizing.{list_at}
use Rattle.terra_term.proofs.sizing.list_size.Given as goal

abbrev pub invariant-loop-left : goal.invariant-loop-left
invariant-loop-left l = (l.left ≤ length l.list) × (l.size ≡ list_at l.before (drop l.left l.list))

abbrev pub decreases-loop-left : goal.decreases-loop-left
decreases-loop-left l = l.left
