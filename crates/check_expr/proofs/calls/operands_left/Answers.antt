use Rattle.std.proofs.Common.{List, ◌∷◌, refl, ap}
use Rattle.check_model.specs.declared.job.Operand.{Operand}
use Rattle.check_model.specs.Calls as models
use Rattle.check_model.specs.Plans.{BodyPlan}
use Rattle.check_expr.specs.Frames.{called_with}
use Rattle.check_expr.proofs.Doing.{moved}
use Rattle.tl_base.proofs.Results.{carried}
use Rattle.check_expr.proofs.calls.operands_left.Goals as goal

pub returns-in-None-clause-means : goal.returns-in-None-clause-means
returns-in-None-clause-means c = carried _ _ c.call.result c.call.ensures.means (λ step g left.
    let a = c.args in
    let f = a.frame in
    let fs = a.frames.now.items in
    let w = a.typing.now in
    let plan : List Operand → BodyPlan = λ os. models.arguments f.fitting os f.types f.node.at f.node.site f.ids
    (called_with f a.of) in
    moved fs fs (plan f.operands) (called_with f a.of f.ids) w w c.call.new.typing left left step
    (ap plan c.in-None.ensures) refl (g left fs))

pub returns-in-Some-clause-means : goal.returns-in-Some-clause-means
returns-in-Some-clause-means c = carried _ _ c.with_operand.result c.with_operand.ensures.means (λ step g left.
    let a = c.args in
    let f = a.frame in
    let fs = a.frames.now.items in
    let w = a.typing.now in
    let plan : List Operand → BodyPlan = λ os. models.arguments f.fitting os f.types f.node.at f.node.site f.ids
    (called_with f a.of) in
    moved fs c.with_operand.new.frames.items (plan f.operands) (plan (c.in-Some.operand ∷ c.take.new.self)) w w
    c.with_operand.new.typing left left
    step (ap plan c.in-Some.ensures) refl (g left))
