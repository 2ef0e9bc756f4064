use Rattle.std.proofs.Common.{◌≡◌, replicate, None}
use Rattle.tl_rename.proofs.standing.Standing.at_first.Given as goal

abbrev pub invariant-loop-node : goal.invariant-loop-node
invariant-loop-node l = l.scopes.items ≡ replicate l._node None
