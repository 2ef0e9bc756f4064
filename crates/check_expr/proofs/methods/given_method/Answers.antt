use Rattle.check_expr.specs.Kept.{keeps_then}
use Rattle.tl_base.proofs.Results.{on-ok}
use Rattle.check_expr.proofs.methods.given_method.Goals as goal

pub returns-clause-kept : goal.returns-clause-kept
returns-clause-kept c = on-ok c.as_method.result c.as_method.ensures.kept (λ g.
    keeps_then c.args.typing.now c.settle_method.new.typing c.as_method.new.typing c.settle_method.ensures.kept
    g)
