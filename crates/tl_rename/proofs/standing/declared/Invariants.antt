use Rattle.std.proofs.Common.{◌≡◌}
use Rattle.tl_tree.specs.Arena.{items_of}
use Rattle.tl_rename.specs.Counted.{declared_below}
use Rattle.tl_rename.proofs.standing.declared.Given as goal

abbrev pub invariant-loop-k : goal.invariant-loop-k
invariant-loop-k l = l.declared.items ≡ declared_below (items_of l.tree) l.k
