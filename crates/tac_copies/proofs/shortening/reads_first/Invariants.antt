use Rattle.std.proofs.Common.{◌≡◌, ◌-◌, ◌≤◌, drop}
use Rattle.tac_copies.specs.Shortened.{few, reads_first}
use Rattle.tac_copies.proofs.shortening.reads_first.Given as goal

-- it is so of all if it is so of those that are left
abbrev pub invariant-loop-at : goal.invariant-loop-at
invariant-loop-at l = record {
  near : l.at ≤ few;
  same : reads_first (few - l.at) l.t l.s (drop l.at l.instructions) l.exit ≡ reads_first few l.t l.s l.instructions l.exit;
}
