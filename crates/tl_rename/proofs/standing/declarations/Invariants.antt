use Rattle.std.proofs.Common.{◌≡◌, ◌++◌, drop, flat_map}
use Rattle.tl_tree.specs.Arena.{items_of}
use Rattle.tl_tree.specs.Scopes.{declared_at}
use Rattle.tl_rename.proofs.standing.declarations.Given as goal

-- what is there, and what is still to be added
abbrev pub invariant-loop-n : goal.invariant-loop-n
invariant-loop-n l =
    l.list ++ flat_map (declared_at (items_of l.tree)) (drop l.n-index l.inside.statements) ≡ l.initial.list ++ flat_map (declared_at (items_of l.tree)) l.inside.statements
