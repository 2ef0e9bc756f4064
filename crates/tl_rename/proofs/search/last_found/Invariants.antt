use Rattle.std.proofs.Common.{◌≡◌, ◌≤◌, drop, length, None}
use Rattle.tl_tree.specs.Arena.{items_of}
use Rattle.tl_tree.specs.Scopes as scopes
use Rattle.tl_rename.proofs.search.last_found.Given as goal

-- none is found among those behind
abbrev pub invariant-loop-at : goal.invariant-loop-at
invariant-loop-at l =
    (l.at ≤ length l.declarations) × (scopes.last_found (scopes.has_name (items_of l.tree) l.name) l.depth l.at (drop l.at l.declarations) ≡ None)

abbrev pub decreases-loop-at : goal.decreases-loop-at
decreases-loop-at l = l.at
