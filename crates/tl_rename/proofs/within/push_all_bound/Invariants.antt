use Rattle.std.proofs.Common.{◌≡◌, ◌++◌, drop}
use Rattle.tl_tree.specs.Arena.{items_of}
use Rattle.tl_tree.specs.Scopes.{all_bound_by}
use Rattle.tl_rename.proofs.within.push_all_bound.Given as goal

-- what is there, and what is still to be added
abbrev pub invariant-loop-n : goal.invariant-loop-n
invariant-loop-n l = l.list ++ all_bound_by (items_of l.tree) (drop l.n-index l.ns) ≡ l.initial.list ++ all_bound_by (items_of l.tree) l.ns
