use Rattle.std.proofs.Common.{◌≡◌, ◌++◌, drop}
use Rattle.terra_term.specs.Pieces.{spaced_parameters}
use Rattle.terra_term.proofs.pieces.push_spaced_parameters.Given as goal

abbrev pub invariant-loop-parameter : goal.invariant-loop-parameter
invariant-loop-parameter l = l.pieces.items ++ spaced_parameters (drop l.parameter-index l.parameters) ≡ l.initial.pieces.items ++ spaced_parameters l.parameters
