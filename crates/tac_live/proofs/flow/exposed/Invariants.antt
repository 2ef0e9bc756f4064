use Rattle.std.proofs.Common.{◌+◌}
use Rattle.tac_live.specs.Flows.{exposes, AreBelow, AreGroupedTo}
use Rattle.tac_live.proofs.flow.exposed.Given as goal

abbrev pub invariant-loop-b : goal.invariant-loop-b
invariant-loop-b l = AreGroupedTo l.graph l.count l.b exposes l.groups.items × AreBelow l.marks.items l.count (l.b + 1)
