use Rattle.std.proofs.Common.{◌≡◌, ◌-◌, length}
use Rattle.tl_tree.specs.Arena.{items_of}
use Rattle.tl_renaming.specs.Renamed.{free_from, letters}
use Rattle.tl_renaming.proofs.Prefixes.{tries}
use Rattle.tl_renaming.proofs.prefix.letters.Given as goal

-- from here on the first free count is found
abbrev pub invariant-loop-count : goal.invariant-loop-count
invariant-loop-count l = free_from (items_of l.tree) (tries (items_of l.tree) l.count) l.count ≡ letters (items_of l.tree)

abbrev pub decreases-loop-count : goal.decreases-loop-count
decreases-loop-count l = length l.taken.items - l.count
