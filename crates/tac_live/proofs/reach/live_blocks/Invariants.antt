use Rattle.std.proofs.Common.{ℕ, ◌+◌, ◌-◌, ◌≤◌, List, length}
use Rattle.tac_form.specs.declared.graph.FlowBlock.{FlowBlock}
use Rattle.tac_live.specs.Flows.{AreBelow, IsFlowOf}
use Rattle.tac_live.specs.Reach.{search, IsSearch, IsSearchOf}
use Rattle.tac_live.proofs.reach.live_blocks.Given as goal

abbrev pub invariant-loop-i : goal.invariant-loop-i
invariant-loop-i l =
    (l.i ≤ length l.found.items)
    × IsSearch (length l.before) l.turn (search l.marks.items l.found.items)
    × AreBelow l.stops.items (length l.before) (l.turn + 1)
    × ((graph : List FlowBlock) (t : ℕ) → IsFlowOf graph t l.exposed l.writers l.before → IsSearchOf graph t l.i l.found.items)

-- how many blocks may still be gone on from
abbrev pub decreases-loop-i : goal.decreases-loop-i
decreases-loop-i l = length l.before - l.i
