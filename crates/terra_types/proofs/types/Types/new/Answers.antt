-- The table of the types that are there from the begin.
use Rattle.std.proofs.Common.{sym, subst}
use Rattle.terra_types.specs.Holding.{IsHeld}
use Rattle.terra_types.proofs.Begun.{held-opening}
use Rattle.terra_types.proofs.types.Types.new.Goals as goal

pub invariant_of-result : goal.invariant_of-result
invariant_of-result c = subst (λ es. IsHeld es 0) (sym c.in_ok-table.ensures) held-opening
