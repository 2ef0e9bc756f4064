use Rattle.std.proofs.Common.{◌≡◌, ◌≤◌, ◌%◌, ◌^◌, length, drop}
use Rattle.terra_memory.specs.Numbers.{number_of}
use Rattle.terra_eval.proofs.memory.number_of.Given as goal

-- the number of the bytes that were passed
abbrev pub invariant-loop-left : goal.invariant-loop-left
invariant-loop-left l = (l.left ≤ length l.bytes) × (l.number ≡ number_of (drop l.left l.bytes) % 2 ^ 64)

abbrev pub decreases-loop-left : goal.decreases-loop-left
decreases-loop-left l = l.left
