use Rattle.std.proofs.Common.{◌≡◌, drop}
use Rattle.tl_tree.specs.Arena.{items_of}
use Rattle.tl_renaming.proofs.Prefixes.{all_taken}
use Rattle.tl_renaming.proofs.prefix.taken_counts.Given as goal

-- with the nodes that are left, all is marked
abbrev pub invariant-loop-k : goal.invariant-loop-k
invariant-loop-k l = all_taken (drop l.k (items_of l.tree)) l.taken.items ≡ all_taken (items_of l.tree) l.initial.taken.items
