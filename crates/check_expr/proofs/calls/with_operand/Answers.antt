use Rattle.std.proofs.Common.{List, ◌∷◌, refl, ap, ◌∙◌}
use Rattle.tl_base.specs.declared.ids.TypeId.{TypeId}
use Rattle.tl_base.specs.declared.machine.Step.TheVariants.{Enter}
use Rattle.check_model.specs.declared.job.Operand.{Operand}
use Rattle.check_model.specs.declared.job.Operand.TheVariants.{Untyped, Typed}
use Rattle.check_model.specs.declared.job.BodyJob.TheVariants as jobs
use Rattle.check_model.specs.Calls as models
use Rattle.check_model.specs.Plans.{BodyPlan}
use Rattle.check_expr.specs.declared.frame.BodyFrame.TheVariants as frames
use Rattle.check_expr.specs.declared.frame.MadeFrame.TheVariants as of_made
use Rattle.check_expr.specs.Frames.{called_with}
use Rattle.check_expr.proofs.Doing.{moved, enters}
use Rattle.tl_base.proofs.Results.{carried}
use Rattle.check_expr.proofs.calls.with_operand.Goals as goal

pub returns-in-None-clause-means : goal.returns-in-None-clause-means
returns-in-None-clause-means c = carried _ _ c.call.result c.call.ensures.means (λ step g left.
    let a = c.args in
    let f = a.frame in
    let fs = a.frames.now.items in
    let w = a.typing.now in
    let plan : Operand → List TypeId → BodyPlan = λ o ps. models.arguments f.fitting (o ∷ f.operands) ps f.node.at
    f.node.site f.ids (called_with f a.of) in
    moved fs fs (plan a.operand f.types) (called_with f a.of f.ids) w w c.call.new.typing left left
    step
    (ap (λ (ps : List TypeId). plan a.operand ps) c.in-None.ensures) refl (g left fs))

pub returns-in_ok-push-in-Untyped-clause-means : goal.returns-in_ok-push-in-Untyped-clause-means
returns-in_ok-push-in-Untyped-clause-means c = λ left.
    let a = c.args in
    let f = a.frame in
    let fs = a.frames.now.items in
    let w = a.typing.now in
    let plan : Operand → List TypeId → BodyPlan = λ o ps. models.arguments f.fitting (o ∷ f.operands) ps f.node.at
    f.node.site f.ids (called_with f a.of) in
    let p = c.in-Some.parameter in
    let rest = c.take.new.self in
    let t = c.in-Untyped.term in
    let job = jobs.Expression t f.node.site in
    moved fs c.push.new.self.items (plan a.operand f.types) (plan (Untyped t) (p ∷ rest)) w w w left left (Enter job)
    (ap (λ (ps : List TypeId). plan a.operand ps) c.in-Some.ensures ∙ ap (λ (o : Operand). plan o (p ∷ rest))
    c.in-Untyped.is) refl
    (enters fs c.push.new.self.items (frames.Made (of_made.Argument p (record f { types = rest }) a.of)) job w left
    c.in_ok-push-in-Untyped.ensures.items)

pub returns-in-Typed-clause-means : goal.returns-in-Typed-clause-means
returns-in-Typed-clause-means c = carried _ _ c.argument.result c.argument.ensures.means (λ step g left.
    let a = c.args in
    let f = a.frame in
    let fs = a.frames.now.items in
    let w = a.typing.now in
    let plan : Operand → List TypeId → BodyPlan = λ o ps. models.arguments f.fitting (o ∷ f.operands) ps f.node.at
    f.node.site f.ids (called_with f a.of) in
    let p = c.in-Some.parameter in
    let rest = c.take.new.self in
    let m = c.in-Typed.made in
    moved fs c.argument.new.frames.items (plan a.operand f.types) (plan (Typed m) (p ∷ rest)) w w c.argument.new.typing
    left left
    step
    (ap (λ (ps : List TypeId). plan a.operand ps) c.in-Some.ensures ∙ ap (λ (o : Operand). plan o (p ∷ rest))
    c.in-Typed.is) refl
    (g left))
