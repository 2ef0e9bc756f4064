use Rattle.std.proofs.Common.{◌≡◌, ◌++◌, drop}
use Rattle.terra_term.specs.Pieces.{spaced_names}
use Rattle.terra_term.proofs.pieces.push_spaced_names.Given as goal

abbrev pub invariant-loop-name : goal.invariant-loop-name
invariant-loop-name l = l.pieces.items ++ spaced_names (drop l.name-index l.names) ≡ l.initial.pieces.items ++ spaced_names l.names
