use Rattle.std.proofs.Common.{◌≡◌, ◌++◌, drop}
use Rattle.check_model.specs.Bodies as models
use Rattle.check_expr.proofs.functions.names_of.Given as goal

abbrev pub invariant-parameters : goal.invariant-parameters
invariant-parameters l = l.named ++ models.names_of (drop l.parameter-index l.parameters) ≡ models.names_of
    l.parameters
