use Rattle.std.proofs.Common.{◌≡◌}
use Rattle.tl_tree.specs.Arena.{items_of}
use Rattle.tl_rename.specs.Answers.{found_below}
use Rattle.tl_rename.specs.Latest.{IsIndexed}
use Rattle.tl_rename.proofs.slots.resolve.Given as goal

abbrev pub invariant-loop-k : goal.invariant-loop-k
invariant-loop-k l = (l.binders.items ≡ found_below (items_of l.tree) l.k) × IsIndexed (items_of l.tree) l.index.latest l.index.reached.items
