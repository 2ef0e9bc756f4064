use Rattle.std.proofs.Common.{◌≡◌}
use Rattle.tl_tree.specs.Arena.{items_of}
use Rattle.tl_tree.specs.Scopes.{give_below, standing_of}
use Rattle.tl_rename.proofs.standing.standing_of.Given as goal

-- with the nodes that are left, all is given
abbrev pub invariant-loop-k : goal.invariant-loop-k
invariant-loop-k l = give_below (items_of l.tree) l.k l.standing ≡ standing_of (items_of l.tree)

abbrev pub decreases-loop-k : goal.decreases-loop-k
decreases-loop-k l = l.k
