use Rattle.std.proofs.Common.{◌≡◌, ◌≤◌, ◌+◌, drop, length}
use Rattle.tac_copies.specs.Kept.{needed_numbers}
use Rattle.tac_copies.proofs.taking.needed_numbers.Given as goal

abbrev pub invariant-loop-at : goal.invariant-loop-at
invariant-loop-at l = record {
  within : l.at ≤ length l.blocks;
  same : l.needed ≡ needed_numbers l.t (l.at + 1) (drop l.at l.blocks);
}

abbrev pub decreases-loop-at : goal.decreases-loop-at
decreases-loop-at l = l.at
