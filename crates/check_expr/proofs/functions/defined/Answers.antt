use Rattle.std.proofs.Common.{[], arith}
use Rattle.std.specs.Prelude.{unwrap_or}
use Rattle.terra_types.specs.Opening.{unit}
use Rattle.check_model.specs.declared.site.Site.{Site}
use Rattle.check_model.specs.Bodies as models
use Rattle.check_model.specs.Expressions as expressions
use Rattle.check_model.specs.Plans.{BodyPlan}
use Rattle.check_expr.proofs.Doing.{pays, unpaid}
use Rattle.tl_base.proofs.Results.{carried}
use Rattle.check_expr.proofs.functions.defined.Goals as goal

pub returns-in-None-clause-means : goal.returns-in-None-clause-means
returns-in-None-clause-means c =
    rw c.in-None.is (c.refuse.ensures.means c.args.typing.now c.args.budget.now c.args.frames.now.items)

pub returns-then-not-pay-clause-means : goal.returns-then-not-pay-clause-means
returns-then-not-pay-clause-means c =
    let a = c.args in
    let m = c.in-Some.field-0 in
    let site : Site = record a.site { result = m.written } in
    let body : BodyPlan =
    expressions.statements m.body site [] (λ typed found. models.made_function m.named (unwrap_or found unit) typed
    a.at a.site) in
    rw c.in-Some.is (unpaid a.frames.now.items 1 (models.parameters m.parameters site body) a.typing.now a.budget.now
    c.pay.new.self
    c.if-not-pay.ensures.short c.if-not-pay.ensures.refused)

pub returns-else-not-pay-clause-means : goal.returns-else-not-pay-clause-means
returns-else-not-pay-clause-means c = carried _ _ c.parameters_left.result c.parameters_left.ensures.means (λ step g.
    let a = c.args in
    let m = c.in-Some.field-0 in
    let site : Site = record a.site { result = m.written } in
    let body : BodyPlan =
    expressions.statements m.body site [] (λ typed found. models.made_function m.named (unwrap_or found unit) typed
    a.at a.site) in
    rw c.in-Some.is (pays a.frames.now.items c.parameters_left.new.frames.items 1
    (models.parameters m.parameters site body) a.typing.now
    c.parameters_left.new.typing a.budget.now c.pay.new.self c.parameters_left.new.budget step
    (grind (arith, c.if-not-pay.ensures.enough)) c.if-not-pay.ensures.paid g))
