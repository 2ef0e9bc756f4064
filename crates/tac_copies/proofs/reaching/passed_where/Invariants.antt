use Rattle.std.proofs.Common.{◌≡◌, ◌++◌, drop}
use Rattle.tac_copies.specs.Kept.{is_among}
use Rattle.tac_copies.specs.Reached.{passed_where}
use Rattle.tac_copies.proofs.reaching.passed_where.Given as goal

-- with what becomes of the blocks that are left, all are there
abbrev pub invariant-loop-at : goal.invariant-loop-at
invariant-loop-at l =
    l.made.items ++ passed_where (is_among l.reached) l.at (drop l.at l.blocks) ≡ passed_where (is_among l.reached) 0 l.blocks
