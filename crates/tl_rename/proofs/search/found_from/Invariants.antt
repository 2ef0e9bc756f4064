use Rattle.std.proofs.Common.{◌≡◌, length}
use Rattle.tl_tree.specs.Arena.{items_of}
use Rattle.tl_tree.specs.Scopes as scopes
use Rattle.tl_rename.specs.Latest.{IsIndexed}
use Rattle.tl_rename.proofs.search.found_from.Given as goal

-- what is found from here is what is found from the name, and what is read is indexed
abbrev pub invariant-loop-owners : goal.invariant-loop-owners
invariant-loop-owners l =
    (scopes.found_from l.owners (items_of l.tree) l.standing (scopes.has_name (items_of l.tree) l.name) l.depth l.from
    ≡ scopes.found_from (length l.standing) (items_of l.tree) l.standing (scopes.has_name (items_of l.tree) l.name) 0 l.fn.scope)
    × IsIndexed (items_of l.tree) l.index.latest l.index.reached.items

abbrev pub decreases-loop-owners : goal.decreases-loop-owners
decreases-loop-owners l = l.owners
