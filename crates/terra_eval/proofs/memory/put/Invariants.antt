use Rattle.std.proofs.Common.{◌≡◌, ◌-◌, take}
use Rattle.terra_memory.specs.Numbers.{overwritten}
use Rattle.terra_memory.specs.Region.{first_address}
use Rattle.terra_eval.proofs.memory.put.Given as goal

-- the bytes so far are there
abbrev pub invariant-loop-i : goal.invariant-loop-i
invariant-loop-i l = l.region ≡ record l.fn.region { bytes = overwritten l.fn.region.bytes (l.address - first_address) (take l.i l.bytes) }
