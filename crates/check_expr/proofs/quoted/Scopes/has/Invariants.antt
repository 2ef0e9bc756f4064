use Rattle.std.proofs.Common.{◌≡◌, drop}
use Rattle.check_model.specs.Expressions.{is_in}
use Rattle.check_expr.specs.Quoted.{own_in}
use Rattle.check_expr.proofs.quoted.Scopes.has.Given as goal

-- those that were passed are others
abbrev pub invariant-declared : goal.invariant-declared
invariant-declared l = is_in l.symbol (drop l.declared-index l.declared-items) ≡ is_in l.symbol (own_in l.self)
