use Rattle.std.proofs.Common.{◌+◌, length}
use Rattle.tac_live.specs.Flows.{AreBelow}
use Rattle.tac_live.specs.Rows.{AreLiveRows}
use Rattle.tac_live.proofs.live.live_at_begins.Given as goal

abbrev pub invariant-loop-t : goal.invariant-loop-t
invariant-loop-t l =
    AreLiveRows l.graph l.t l.rows.items
    × AreBelow l.marks.items (length l.graph) (l.t + 1)
    × AreBelow l.stops.items (length l.graph) (l.t + 1)
