use Rattle.std.proofs.Common.{◌≡◌, drop}
use Rattle.tac_copies.specs.Taken.{reads}
use Rattle.tac_copies.proofs.taking.block_reads.Given as goal

-- it is so of all if it is so of those that are left
abbrev pub invariant-loop-instruction : goal.invariant-loop-instruction
invariant-loop-instruction l = reads l.t (drop l.instruction-index l.instructions) l.exit ≡ reads l.t l.instructions l.exit
