use Rattle.std.proofs.Common.{◌≡◌, ◌++◌, ◌-◌, drop, length}
use Rattle.tac_copies.specs.Directed.{directed_all}
use Rattle.tac_copies.specs.Kept.{told_once}
use Rattle.tac_copies.proofs.directing.directed_all.Given as goal

-- with what becomes of the instructions that are left, all are there
abbrev pub invariant-loop-at : goal.invariant-loop-at
invariant-loop-at l =
    l.made.items ++ directed_all (told_once l.once) (drop l.at l.instructions) ≡ directed_all (told_once l.once) l.instructions

abbrev pub decreases-loop-at : goal.decreases-loop-at
decreases-loop-at l = length l.instructions - l.at
