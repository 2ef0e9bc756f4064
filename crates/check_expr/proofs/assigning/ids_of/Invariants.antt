use Rattle.std.proofs.Common.{◌≡◌, ◌++◌, drop}
use Rattle.check_model.specs.Plans as plans
use Rattle.check_expr.proofs.assigning.ids_of.Given as goal

abbrev pub invariant-made : goal.invariant-made
invariant-made l = l.ids ++ plans.ids_of (drop l.one-index l.made) ≡ plans.ids_of l.made
