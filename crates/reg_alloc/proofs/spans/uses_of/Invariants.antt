use Rattle.reg_alloc.specs.Noted.{HasUses}
use Rattle.reg_alloc.proofs.spans.uses_of.Given as goal

abbrev pub invariant-loop-b : goal.invariant-loop-b
invariant-loop-b l = HasUses l.graph l.count l.b l.spans.items
