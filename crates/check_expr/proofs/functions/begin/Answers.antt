use Rattle.check_model.specs.contracts.typing.Typing.{the_view}
use Rattle.check_expr.proofs.Worlds.{stage_kept}
use Rattle.check_expr.proofs.functions.begin.Goals as goal

pub returns-clause-kept : goal.returns-clause-kept
returns-clause-kept c = stage_kept c.args.typing.now (the_view c.typing.inside) _ c.typing.view_is
    c.begin_in.ensures.kept
