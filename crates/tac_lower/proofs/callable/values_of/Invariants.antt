use Rattle.std.proofs.Common.{◌≡◌, ◌++◌, map, drop}
use Rattle.tac_lower.specs.Pieces.{given}
use Rattle.tac_lower.specs.Data.{result_of}
use Rattle.tac_lower.proofs.callable.values_of.Given as goal

abbrev pub invariant-loop-to : goal.invariant-loop-to
invariant-loop-to l = map given l.parameters ≡ map result_of l.values.items ++ map given (drop l.to-index l.parameters)
