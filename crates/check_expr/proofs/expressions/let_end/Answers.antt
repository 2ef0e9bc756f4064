use Rattle.std.proofs.Common.{List, sym, ap}
use Rattle.tl_base.specs.declared.ids.TermId.{TermId}
use Rattle.terra_term.specs.declared.typed.TypedExpression.TheVariants as te
use Rattle.check_model.specs.Plans.{BodyPlan, gives}
use Rattle.check_model.specs.Typing.{cut_to}
use Rattle.check_expr.proofs.Doing.{moved}
use Rattle.check_expr.proofs.Keeping.{kept_from}
use Rattle.tl_base.proofs.Results.{carried, on-ok}
use Rattle.check_expr.proofs.expressions.let_end.Goals as goal

pub returns-clause-means : goal.returns-clause-means
returns-clause-means c = carried _ _ c.gives.result c.gives.ensures.means (λ step g left fs.
    let a = c.args in
    let n = a.node in
    let plan : List TermId → BodyPlan = λ ids. gives n.source n.at a.made.of (te.Let ids a.made.id) in
    moved fs fs (plan a.ids) (plan c.in_ok-list.list) (cut_to a.typing.now a.count) c.leave.new.self c.gives.new.typing
    left left step
    (ap plan (sym c.in_ok-list.ensures)) (sym c.leave.ensures) (g left fs))

pub returns-clause-kept : goal.returns-clause-kept
returns-clause-kept c = on-ok c.gives.result c.gives.ensures.kept (λ g.
    kept_from (cut_to c.args.typing.now c.args.count) c.leave.new.self c.gives.new.typing c.leave.ensures
    g)
