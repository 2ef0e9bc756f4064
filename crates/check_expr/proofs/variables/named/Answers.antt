use Rattle.std.proofs.Common.{List, sym, ap, ◌∙◌}
use Rattle.tl_base.specs.declared.ids.TermId.{TermId}
use Rattle.terra_term.specs.declared.lists.TypedName.{TypedName}
use Rattle.terra_term.specs.declared.typed.TypedStatement.TheVariants as ts
use Rattle.check_model.specs.Plans.{BodyPlan, states}
use Rattle.check_model.specs.Typing.{with_variables}
use Rattle.check_expr.proofs.Doing.{moved}
use Rattle.check_expr.proofs.Keeping.{kept_from}
use Rattle.tl_base.proofs.Results.{carried, on-ok}
use Rattle.check_expr.proofs.variables.named.Goals as goal

pub returns-clause-means : goal.returns-clause-means
returns-clause-means c = carried _ _ c.states.result c.states.ensures.means (λ step g left fs.
    let a = c.args in
    let f = a.frame in
    let w = a.typing.now in
    let plan : List TypedName → List TermId → BodyPlan = λ names ids. states f.at (ts.Var names ids) f.site.result in
    moved fs fs (plan f.named f.ids) (plan c.in_ok-names.names c.in_ok-list.list) (with_variables w f.named) c.declare_all.new.typing
    c.states.new.typing left left step
    (ap (λ (names : List TypedName). plan names f.ids) (sym c.in_ok-names.ensures)
    ∙ ap (plan c.in_ok-names.names) (sym c.in_ok-list.ensures))
    (ap (with_variables w) (sym c.as_slice.ensures) ∙ sym c.in_ok-declare_all.ensures.ok) (g left fs))

pub returns-clause-kept : goal.returns-clause-kept
returns-clause-kept c = on-ok c.states.result c.states.ensures.kept (λ g.
    kept_from (with_variables c.args.typing.now c.as_slice.result.now) c.declare_all.new.typing c.states.new.typing
    c.in_ok-declare_all.ensures.ok
    g)
