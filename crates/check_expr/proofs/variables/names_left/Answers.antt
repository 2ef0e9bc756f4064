use Rattle.std.proofs.Common.{List, [], ◌∷◌, ◌++◌, refl, ap, arith}
use Rattle.tl_base.specs.declared.machine.Step.TheVariants.{Spent}
use Rattle.terra_term.specs.declared.lists.TypedName.{TypedName}
use Rattle.terra_term.specs.declared.lists.VarName.{VarName}
use Rattle.check_model.specs.Plans.{BodyPlan}
use Rattle.check_model.specs.Statements as models
use Rattle.check_expr.specs.Frames as waiting
use Rattle.check_expr.proofs.Doing.{moved, pays, unpaid}
use Rattle.tl_base.proofs.Results.{carried}
use Rattle.check_expr.proofs.variables.names_left.Goals as goal

pub returns-in-None-clause-means : goal.returns-in-None-clause-means
returns-in-None-clause-means c = carried _ _ c.named.result c.named.ensures.means (λ step g.
    let a = c.args in
    let f = a.frame in
    let fs = a.frames.now.items in
    let w = a.typing.now in
    let left = a.budget.now in
    let go : List TypedName → BodyPlan = λ all. waiting.var_names all f.ids f.at f.site in
    let plan : List VarName → BodyPlan = λ ns. models.names_for ns f.at f.site f.named go in
    moved fs fs (plan f.names) (go f.named) w w c.named.new.typing left left step
    (ap plan c.in-None.ensures) refl (g left fs))

pub returns-then-not-pay-clause-means : goal.returns-then-not-pay-clause-means
returns-then-not-pay-clause-means c =
    let a = c.args in
    let f = a.frame in
    let n = c.in-Some.name in
    let rest = c.take.new.self in
    let fs = a.frames.now.items in
    let w = a.typing.now in
    let left = a.budget.now in
    let go : List TypedName → BodyPlan = λ all. waiting.var_names all f.ids f.at f.site in
    let plan : List VarName → BodyPlan = λ ns. models.names_for ns f.at f.site f.named go in
    let one : BodyPlan = models.name_for n.of n f.at f.site (λ name. models.names_for rest f.at f.site (f.named ++ name ∷ []) go) in
    moved fs fs (plan f.names) (plan (n ∷ rest)) w w w left c.pay.new.self Spent (ap plan c.in-Some.ensures) refl
    (unpaid fs 1 one w left c.pay.new.self c.if-not-pay.ensures.short c.if-not-pay.ensures.refused)

pub returns-else-not-pay-clause-means : goal.returns-else-not-pay-clause-means
returns-else-not-pay-clause-means c = carried _ _ c.name_for.result c.name_for.ensures.means (λ step g.
    let a = c.args in
    let f = a.frame in
    let n = c.in-Some.name in
    let rest = c.take.new.self in
    let fs = a.frames.now.items in
    let fs2 = c.name_for.new.frames.items in
    let w = a.typing.now in
    let w2 = c.name_for.new.typing in
    let left = a.budget.now in
    let after = c.pay.new.self in
    let go : List TypedName → BodyPlan = λ all. waiting.var_names all f.ids f.at f.site in
    let plan : List VarName → BodyPlan = λ ns. models.names_for ns f.at f.site f.named go in
    let one : BodyPlan = models.name_for n.of n f.at f.site (λ name. models.names_for rest f.at f.site (f.named ++ name ∷ []) go) in
    moved fs fs2 (plan f.names) (plan (n ∷ rest)) w w w2 left after step (ap plan c.in-Some.ensures) refl
    (pays fs fs2 1 one w w2 left after after step (grind (arith, c.if-not-pay.ensures.enough)) c.if-not-pay.ensures.paid
    (g after)))
