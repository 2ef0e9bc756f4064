use Rattle.std.proofs.Common.{◌≡◌, drop}
use Rattle.tl_tree.specs.Arena.{items_of}
use Rattle.tl_renaming.proofs.Marking.{all_marked}
use Rattle.tl_renaming.proofs.declarations.declarations.Given as goal

-- with the nodes that are left, all is marked
abbrev pub invariant-loop-k : goal.invariant-loop-k
invariant-loop-k l =
    all_marked (items_of l.tree) (drop l.k (items_of l.tree)) l.marks.items
    ≡ all_marked (items_of l.tree) (items_of l.tree) l.initial.marks.items
