use Rattle.tac_live.specs.Flows.{writes, AreGroupedTo}
use Rattle.tac_live.proofs.flow.writers.Given as goal

abbrev pub invariant-loop-b : goal.invariant-loop-b
invariant-loop-b l = AreGroupedTo l.graph l.count l.b writes l.groups.items
