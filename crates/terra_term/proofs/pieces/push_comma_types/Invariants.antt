use Rattle.std.proofs.Common.{◌≡◌, ◌++◌, drop}
use Rattle.terra_term.specs.Pieces.{comma_types}
use Rattle.terra_term.proofs.pieces.push_comma_types.Given as goal

abbrev pub invariant-loop-of : goal.invariant-loop-of
invariant-loop-of l = l.pieces.items ++ comma_types l.below (drop l.of-index l.types) ≡ l.initial.pieces.items ++ comma_types l.below l.types
