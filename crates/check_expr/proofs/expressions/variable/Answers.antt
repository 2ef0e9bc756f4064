use Rattle.std.proofs.Common.{Option, Some, refl, sym, ap, ◌∙◌}
use Rattle.tl_base.specs.declared.ids.TypeId.{TypeId}
use Rattle.terra_term.specs.declared.refusal.RefusalKind.TheVariants.{OutOfScope}
use Rattle.check_model.specs.Expressions as models
use Rattle.check_model.specs.Plans.{BodyPlan, refuse}
use Rattle.check_model.specs.Typing.{variable_at}
use Rattle.check_expr.proofs.Doing.{moved}
use Rattle.tl_base.proofs.Results.{carried}
use Rattle.check_expr.proofs.expressions.variable.Goals as goal

pub returns-in-Some-clause-means : goal.returns-in-Some-clause-means
returns-in-Some-clause-means c = carried _ _ c.gives.result c.gives.ensures.means (λ step g left fs.
    let a = c.args in
    let n = a.node in
    let w = a.typing.now in
    let plan : Option TypeId → BodyPlan = λ t. models.variable t a.symbol n.at n.source n.site in
    moved fs fs (plan (variable_at w n.site.base a.symbol)) (plan (Some c.in-Some.of)) w w c.gives.new.typing left left
    step
    (ap plan (sym c.variable.ensures ∙ c.in-Some.is)) refl (g left fs))

pub returns-in-None-clause-means : goal.returns-in-None-clause-means
returns-in-None-clause-means c = λ left fs.
    let a = c.args in
    let n = a.node in
    let w = a.typing.now in
    let plan : Option TypeId → BodyPlan = λ t. models.variable t a.symbol n.at n.source n.site in
    moved fs fs (plan (variable_at w n.site.base a.symbol)) (refuse OutOfScope n.at n.site) w w w left left
    c.refuse.result
    (ap plan (sym c.variable.ensures ∙ c.in-None.is)) refl (c.refuse.ensures.means w left fs)
