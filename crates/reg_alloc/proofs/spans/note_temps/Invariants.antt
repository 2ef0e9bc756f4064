use Rattle.std.proofs.Common.{◌+◌, length}
use Rattle.tac_live.specs.Flows.{AreBelow}
use Rattle.reg_alloc.specs.Noted.{HasLive}
use Rattle.reg_alloc.proofs.spans.note_temps.Given as goal

abbrev pub invariant-loop-t : goal.invariant-loop-t
invariant-loop-t l =
    HasLive l.graph l.count l.t l.spans.items
    × AreBelow l.marks.items (length l.graph) (l.t + 1)
    × AreBelow l.stops.items (length l.graph) (l.t + 1)
