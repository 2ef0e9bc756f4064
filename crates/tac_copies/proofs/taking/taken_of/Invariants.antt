use Rattle.std.proofs.Common.{◌≡◌, ◌≤◌, ◌-◌, drop, length}
use Rattle.tac_copies.specs.Kept.{standing}
use Rattle.tac_copies.specs.Taken.{most_taken, taken_code, taken_times}
use Rattle.tac_copies.proofs.taking.taken_of.Given as goal

-- what is left to be taken, is taken of the code as it stands
abbrev pub invariant-parameters : goal.invariant-parameters
invariant-parameters l = record {
  within : l.taken ≤ length l.instructions;
  few : l.taken ≤ most_taken;
  same : taken_times (most_taken - l.taken) (standing l.code l.parameters.items (drop l.taken l.instructions) l.first.exit l.rest)
      ≡ taken_code (standing l.code l.code.parameters l.first.instructions l.first.exit l.rest);
}

abbrev pub decreases-parameters : goal.decreases-parameters
decreases-parameters l = most_taken - l.taken
