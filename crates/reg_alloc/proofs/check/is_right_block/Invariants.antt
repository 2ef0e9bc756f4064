use Rattle.std.proofs.Common.{◌≤◌, ◌<◌, ℕ, length}
use Rattle.tac_live.specs.Rows.{in_rows}
use Rattle.tac_live.specs.Sets.{before_from, IsSet}
use Rattle.reg_alloc.specs.Homes.{AreRightBelow, used_from}
use Rattle.reg_alloc.proofs.check.is_right_block.Given as goal

-- the set is what is live here, and the places behind are right
abbrev pub invariant-loop-at : goal.invariant-loop-at
invariant-loop-at l =
    (l.at ≤ length l.block.steps)
    × IsSet l.live (length l.homes) (λ t. before_from l.block l.at (λ c. in_rows l.rows c t) t)
    × ((i : ℕ) → l.at < i → i ≤ length l.block.steps → AreRightBelow l.homes (length l.homes) (λ t. used_from l.rows l.block i t))

abbrev pub decreases-loop-at : goal.decreases-loop-at
decreases-loop-at l = l.at
