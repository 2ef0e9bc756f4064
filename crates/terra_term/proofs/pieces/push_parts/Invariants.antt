use Rattle.std.proofs.Common.{◌≡◌, ◌++◌, drop}
use Rattle.terra_term.specs.Pieces.{spaced_parts}
use Rattle.terra_term.proofs.pieces.push_parts.Given as goal

abbrev pub invariant-loop-id : goal.invariant-loop-id
invariant-loop-id l = l.pieces.items ++ spaced_parts l.kind l.below (drop l.id-index l.ids) ≡ l.initial.pieces.items ++ spaced_parts l.kind l.below l.ids
