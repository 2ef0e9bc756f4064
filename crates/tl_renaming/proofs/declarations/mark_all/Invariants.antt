use Rattle.std.proofs.Common.{◌≡◌, drop}
use Rattle.tl_tree.specs.Arena.{items_of}
use Rattle.tl_renaming.specs.Passes.{marked}
use Rattle.tl_renaming.proofs.declarations.mark_all.Given as goal

-- with those that are left, all are marked
abbrev pub invariant-loop-n : goal.invariant-loop-n
invariant-loop-n l =
    marked (items_of l.tree) (drop l.n-index l.ns) l.marks.items ≡ marked (items_of l.tree) l.ns l.initial.marks.items
