use Rattle.std.proofs.Common.{[], ◌∷◌, refl, sym, ap, ◌∙◌}
use Rattle.tl_base.specs.declared.machine.Step.TheVariants.{Enter}
use Rattle.terra_term.specs.declared.refusal.RefusalKind.TheVariants.{WrongCount}
use Rattle.check_model.specs.declared.job.BodyJob.TheVariants as jobs
use Rattle.check_model.specs.declared.job.Operand.{Operand}
use Rattle.check_model.specs.declared.job.Operand.TheVariants.{Untyped, Typed}
use Rattle.check_model.specs.Calls as models
use Rattle.check_model.specs.Plans.{BodyPlan, refuse}
use Rattle.check_expr.specs.declared.frame.BodyFrame.TheVariants as frames
use Rattle.check_expr.specs.declared.frame.MadeFrame.TheVariants as of_made
use Rattle.check_expr.proofs.Calling.{cast_none, cast_one}
use Rattle.check_expr.proofs.Doing.{moved, enters, does_as}
use Rattle.tl_base.proofs.Results.{carried}
use Rattle.check_expr.proofs.calls.cast.Goals as goal

pub returns-in-None-clause-means : goal.returns-in-None-clause-means
returns-in-None-clause-means c = λ left.
    let a = c.args in
    let n = a.node in
    let w = a.typing.now in
    does_as a.frames.now.items (models.cast a.to a.operands n.at n.source n.site) (refuse WrongCount n.at n.site) w w
    left left c.refuse.result
    (cast_none a.operands a.to n.at n.source n.site (sym c.only.ensures ∙ c.in-None.is)) (c.refuse.ensures.means w left)

pub returns-in_ok-push-in-Untyped-clause-means : goal.returns-in_ok-push-in-Untyped-clause-means
returns-in_ok-push-in-Untyped-clause-means c = λ left.
    let a = c.args in
    let n = a.node in
    let fs = a.frames.now.items in
    let fs2 = c.push.new.self.items in
    let w = a.typing.now in
    let o = c.in-Some.operand in
    let t = c.in-Untyped.term in
    let job = jobs.Expression t n.site in
    let plan : Operand → BodyPlan = λ x. models.cast a.to (x ∷ []) n.at n.source n.site in
    moved fs fs2 (models.cast a.to a.operands n.at n.source n.site) (plan (Untyped t)) w w w left left (Enter job)
    (cast_one a.operands o a.to n.at n.source n.site (sym c.only.ensures ∙ c.in-Some.is) ∙ ap plan c.in-Untyped.is) refl
    (enters fs fs2 (frames.Made (of_made.Cast a.to n)) job w left c.in_ok-push-in-Untyped.ensures.items)

pub returns-in-Typed-clause-means : goal.returns-in-Typed-clause-means
returns-in-Typed-clause-means c = carried _ _ c.cast_made.result c.cast_made.ensures.means (λ step g left.
    let a = c.args in
    let n = a.node in
    let w = a.typing.now in
    let o = c.in-Some.operand in
    let plan : Operand → BodyPlan = λ x. models.cast a.to (x ∷ []) n.at n.source n.site in
    moved a.frames.now.items c.cast_made.new.frames.items (models.cast a.to a.operands n.at n.source n.site) (plan
    (Typed c.in-Typed.made)) w w
    c.cast_made.new.typing left left step
    (cast_one a.operands o a.to n.at n.source n.site (sym c.only.ensures ∙ c.in-Some.is) ∙ ap plan c.in-Typed.is) refl
    (g left))
