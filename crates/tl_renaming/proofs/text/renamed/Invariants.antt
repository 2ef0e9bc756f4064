use Rattle.std.proofs.Common.{◌≡◌, ◌++◌, drop}
use Rattle.tl_tree.specs.Arena.{items_of}
use Rattle.tl_renaming.specs.Renamed.{letters, renamed_from, renamed}
use Rattle.tl_renaming.proofs.text.renamed.Given as goal

-- with the nodes that are left, all is written
abbrev pub invariant-loop-k : goal.invariant-loop-k
invariant-loop-k l =
    l.out ++ renamed_from (items_of l.tree) (letters (items_of l.tree)) l.text l.at l.k (drop l.k (items_of l.tree))
    ≡ renamed (items_of l.tree) l.text
