use Rattle.std.proofs.Common.{◌≡◌, ◌++◌, drop}
use Rattle.terra_term.specs.Pieces.{named_values}
use Rattle.terra_term.proofs.pieces.push_named_values.Given as goal

abbrev pub invariant-loop-place : goal.invariant-loop-place
invariant-loop-place l = l.pieces.items ++ named_values l.below (drop l.place l.fields) (drop l.place l.values) ≡ l.initial.pieces.items ++ named_values l.below l.fields l.values
