use Rattle.std.proofs.Common.{◌≡◌, Option, Some, None, refl, ap, rules}
use Rattle.std.specs.Prelude.{slice_get}
use Rattle.terra_term.specs.declared.refusal.RefusalKind.TheVariants.{BadOperand}
use Rattle.terra_term.specs.declared.store.TerraGlobal.{TerraGlobal}
use Rattle.check_model.specs.Expressions as models
use Rattle.check_model.specs.Plans.{BodyPlan, refuse}
use Rattle.check_expr.proofs.Doing.{moved}
use Rattle.tl_base.proofs.Results.{carried}
use Rattle.check_expr.proofs.expressions.global_variable.Goals as goal

pub returns-in-Some-clause-means : goal.returns-in-Some-clause-means
returns-in-Some-clause-means c = carried _ _ c.gives.result c.gives.ensures.means (λ step g left fs.
    let a = c.args in
    let n = a.node in
    let w = a.typing.now in
    let found : slice_get w.stage.store.globals a.global.0 ≡ Some c.in-Some.found = search rules in
    let plan : Option TerraGlobal → BodyPlan = λ g. models.global g n.at n.source n.site in
    moved fs fs (plan (slice_get w.stage.store.globals a.global.0)) (plan (Some c.in-Some.found)) w w c.gives.new.typing
    left left
    step
    (ap plan found) refl (g left fs))

pub returns-in-None-clause-means : goal.returns-in-None-clause-means
returns-in-None-clause-means c = λ left fs.
    let a = c.args in
    let n = a.node in
    let w = a.typing.now in
    let found : slice_get w.stage.store.globals a.global.0 ≡ None = search rules in
    let plan : Option TerraGlobal → BodyPlan = λ g. models.global g n.at n.source n.site in
    moved fs fs (plan (slice_get w.stage.store.globals a.global.0)) (refuse BadOperand n.at n.site) w w w left left
    c.refuse.result
    (ap plan found) refl (c.refuse.ensures.means w left fs)
