use Rattle.std.proofs.Common.{◌≡◌, take}
use Rattle.tac_form.specs.Graph.{steps_of}
use Rattle.tac_live.proofs.uses.steps.Given as goal

abbrev pub invariant-loop-instruction : goal.invariant-loop-instruction
invariant-loop-instruction l = l.steps.items ≡ steps_of (take l.instruction-index l.instructions)
