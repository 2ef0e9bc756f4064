use Rattle.std.proofs.Common.{◌≡◌, ◌++◌, drop}
use Rattle.check_model.specs.Plans as plans
use Rattle.check_expr.proofs.calls.push_untyped.Given as goal

abbrev pub invariant-terms : goal.invariant-terms
invariant-terms l =
    l.operands.items ++ plans.untyped (drop l.term-index l.terms) ≡ l.fn.operands.items ++ plans.untyped l.terms
