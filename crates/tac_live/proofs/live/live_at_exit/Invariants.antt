use Rattle.std.proofs.Common.{◌||◌, take}
use Rattle.std.specs.List.{list_any}
use Rattle.tac_form.specs.Live.{has}
use Rattle.tac_live.specs.Rows.{in_rows}
use Rattle.tac_live.specs.Sets.{IsSet}
use Rattle.tac_live.proofs.live.live_at_exit.Given as goal

-- what the exit reads, or is live where a block begins that was gone through
abbrev pub invariant-loop-next : goal.invariant-loop-next
invariant-loop-next l =
    IsSet l.live l.count (λ t. has l.block.reads t || list_any (λ c. in_rows l.rows c t) (take l.next-index l.block.next))
