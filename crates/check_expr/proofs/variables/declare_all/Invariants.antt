use Rattle.std.proofs.Common.{◌≡◌, drop}
use Rattle.check_model.specs.Typing.{with_variables}
use Rattle.check_expr.proofs.variables.declare_all.Given as goal

abbrev pub invariant-names : goal.invariant-names
invariant-names l = with_variables l.typing (drop l.name-index l.names) ≡ with_variables l.fn.typing l.names
