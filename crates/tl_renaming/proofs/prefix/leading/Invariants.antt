use Rattle.std.proofs.Common.{◌≡◌, ◌≤◌, ◌+◌, ◌-◌, length, drop}
use Rattle.tl_renaming.specs.Passes.{leading}
use Rattle.tl_renaming.proofs.prefix.leading.Given as goal

abbrev pub invariant-loop-count : goal.invariant-loop-count
invariant-loop-count l = (l.count + leading (drop l.count l.name) ≡ leading l.name) × (l.count ≤ length l.name)

abbrev pub decreases-loop-count : goal.decreases-loop-count
decreases-loop-count l = length l.name - l.count
