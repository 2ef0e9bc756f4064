use Rattle.std.proofs.Common.{◌≡◌, drop}
use Rattle.back_end.specs.Worklist.{with_instructions}
use Rattle.back_end.proofs.worklist.add_instructions.Given as goal

abbrev pub invariant-loop-instruction : goal.invariant-loop-instruction
invariant-loop-instruction l = with_instructions l.list.keys (drop l.instruction-index l.instructions) ≡ with_instructions l.fn.list.keys l.instructions
