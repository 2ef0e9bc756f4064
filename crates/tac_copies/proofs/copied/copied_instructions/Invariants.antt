use Rattle.std.proofs.Common.{◌≡◌, take}
use Rattle.tac_copies.proofs.copied.copied_instructions.Given as goal

abbrev pub invariant-loop-instruction : goal.invariant-loop-instruction
invariant-loop-instruction l = l.made.items ≡ take l.instruction-index l.instructions
