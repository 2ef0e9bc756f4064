use Rattle.std.proofs.Common.{◌≡◌, replicate}
use Rattle.tl_rename.proofs.index.new_index.Given as goal

abbrev pub invariant-loop-node : goal.invariant-loop-node
invariant-loop-node l = l.reached.items ≡ replicate l._node 0
