use Rattle.std.proofs.Common.{refl, sym, ap, ◌∙◌}
use Rattle.terra_term.specs.declared.refusal.RefusalKind.TheVariants.{WrongCount, BadOperand}
use Rattle.check_model.specs.declared.job.Operand.{Operand}
use Rattle.check_model.specs.declared.job.Operand.TheVariants.{Untyped}
use Rattle.check_model.specs.Calls as models
use Rattle.check_model.specs.Plans.{BodyPlan, refuse}
use Rattle.check_expr.proofs.Calling.{size_none, size_one}
use Rattle.check_expr.proofs.Doing.{moved, does_as}
use Rattle.tl_base.proofs.Results.{carried}
use Rattle.check_expr.proofs.calls.call_size.Goals as goal

pub returns-in-None-clause-means : goal.returns-in-None-clause-means
returns-in-None-clause-means c =
    let a = c.args in
    let n = a.node in
    let w = a.typing.now in
    let left = a.budget.now in
    does_as a.frames.now.items (models.call_size a.operands n.at n.source n.site) (refuse WrongCount n.at n.site) w w
    left left c.refuse.result
    (size_none a.operands n.at n.source n.site (sym c.only.ensures ∙ c.in-None.is)) (c.refuse.ensures.means w left)

pub returns-in-Typed-clause-means : goal.returns-in-Typed-clause-means
returns-in-Typed-clause-means c =
    let a = c.args in
    let n = a.node in
    let w = a.typing.now in
    let left = a.budget.now in
    let o = c.in-Some.operand in
    let m = c.in-Typed.made in
    does_as a.frames.now.items (models.call_size a.operands n.at n.source n.site) (refuse BadOperand m.at n.site) w w
    left left
    c.refuse-in-Typed.result
    (size_one a.operands o n.at n.source n.site (sym c.only.ensures ∙ c.in-Some.is)
    ∙ ap (λ (x : Operand). models.size_of_operand x n.at n.source n.site) c.in-Typed.is)
    (c.refuse-in-Typed.ensures.means w left)

pub returns-in-Untyped-clause-means : goal.returns-in-Untyped-clause-means
returns-in-Untyped-clause-means c = carried _ _ c.size_of_term.result c.size_of_term.ensures.means (λ step g.
    let a = c.args in
    let n = a.node in
    let w = a.typing.now in
    let o = c.in-Some.operand in
    let plan : Operand → BodyPlan = λ x. models.size_of_operand x n.at n.source n.site in
    moved a.frames.now.items c.size_of_term.new.frames.items (models.call_size a.operands n.at n.source n.site) (plan
    (Untyped c.in-Untyped.term))
    w w c.size_of_term.new.typing a.budget.now c.size_of_term.new.budget step
    (size_one a.operands o n.at n.source n.site (sym c.only.ensures ∙ c.in-Some.is) ∙ ap plan c.in-Untyped.is) refl
    g)
