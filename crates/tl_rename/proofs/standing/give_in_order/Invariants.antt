use Rattle.std.proofs.Common.{◌≡◌, ◌+◌, drop, length, flat_map}
use Rattle.tl_tree.specs.Arena.{items_of}
use Rattle.tl_tree.specs.Scopes.{give, in_order, declared_at}
use Rattle.tl_rename.proofs.standing.give_in_order.Given as goal

-- with what is still to be given and counted, all is given and counted
abbrev pub invariant-loop-n : goal.invariant-loop-n
invariant-loop-n l =
    (give l.owner.0 l.standing (in_order (items_of l.tree) l.owner l.count (drop l.n-index l.statements))
    ≡ give l.owner.0 l.initial.standing (in_order (items_of l.tree) l.owner l.before l.statements))
    × (l.count + length (flat_map (declared_at (items_of l.tree)) (drop l.n-index l.statements))
    ≡ l.before + length (flat_map (declared_at (items_of l.tree)) l.statements))
