use Rattle.std.proofs.Common.{◌≡◌, ◌++◌, drop}
use Rattle.check_model.specs.Calls as models
use Rattle.check_expr.proofs.known.types_of.Given as goal

abbrev pub invariant-parameters : goal.invariant-parameters
invariant-parameters l = l.types ++ models.types_of (drop l.parameter-index l.parameters) ≡ models.types_of l.parameters
