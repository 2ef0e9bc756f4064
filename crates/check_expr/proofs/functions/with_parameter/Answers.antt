use Rattle.std.proofs.Common.{refl, sym}
use Rattle.check_model.specs.Typing.{with_variable}
use Rattle.check_expr.specs.Frames as waiting
use Rattle.check_expr.proofs.Doing.{moved}
use Rattle.check_expr.proofs.Keeping.{kept_from}
use Rattle.tl_base.proofs.Results.{carried, on-ok}
use Rattle.check_expr.proofs.functions.with_parameter.Goals as goal

pub returns-clause-means : goal.returns-clause-means
returns-clause-means c = carried _ _ c.parameters_left.result c.parameters_left.ensures.means (λ step g.
    let a = c.args in
    let plan = waiting.parameters_from a.frame in
    moved a.frames.now.items c.parameters_left.new.frames.items plan plan (with_variable a.typing.now a.name.symbol
    a.name.of) c.declare.new.self
    c.parameters_left.new.typing a.budget.now c.parameters_left.new.budget step refl
    (sym c.in_ok-declare.ensures)
    g)

pub returns-clause-kept : goal.returns-clause-kept
returns-clause-kept c = on-ok c.parameters_left.result c.parameters_left.ensures.kept (λ g.
    let a = c.args in
    kept_from (with_variable a.typing.now a.name.symbol a.name.of) c.declare.new.self c.parameters_left.new.typing
    c.in_ok-declare.ensures
    g)
