use Rattle.std.proofs.Common.{length}
use Rattle.tac_live.specs.Flows.{leads, AreGroupedTo}
use Rattle.tac_live.proofs.flow.before.Given as goal

abbrev pub invariant-loop-b : goal.invariant-loop-b
invariant-loop-b l = AreGroupedTo l.graph (length l.graph) l.b leads l.groups.items
