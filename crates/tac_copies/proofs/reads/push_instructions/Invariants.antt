use Rattle.std.proofs.Common.{◌≡◌, ◌++◌, drop}
use Rattle.tac_copies.specs.Kept.{instructions_reads}
use Rattle.tac_copies.proofs.reads.push_instructions.Given as goal

-- with those of the instructions that are left, all are there
abbrev pub invariant-loop-instruction : goal.invariant-loop-instruction
invariant-loop-instruction l =
    l.reads.items ++ instructions_reads (drop l.instruction-index l.instructions)
    ≡ l.initial.reads.items ++ instructions_reads l.instructions
