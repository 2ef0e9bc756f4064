use Rattle.std.proofs.Common.{◌<◌, ◌≤◌, ◌-◌, length, get_or}
use Rattle.tl_tree.specs.Arena.{items_of}
use Rattle.tl_rename.specs.Latest.{IsIndexed}
use Rattle.tl_rename.proofs.index.read_all.Given as goal

abbrev pub invariant-loop-index : goal.invariant-loop-index
invariant-loop-index l =
    IsIndexed (items_of l.tree) l.index.latest l.index.reached.items
    × (l.scope.owner.0 < length l.index.reached.items)
    × (get_or l.index.reached.items l.scope.owner.0 0 ≤ length l.declared)

abbrev pub decreases-loop-index : goal.decreases-loop-index
decreases-loop-index l = length l.declared - get_or l.index.reached.items l.scope.owner.0 0
