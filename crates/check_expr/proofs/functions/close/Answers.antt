use Rattle.std.proofs.Common.{refl, sym, ap, ◌∙◌}
use Rattle.tl_base.specs.declared.machine.Step.TheVariants.{Return}
use Rattle.tl_base.specs.Plan.{Give}
use Rattle.check_model.specs.Bodies.{stage_after}
use Rattle.check_model.specs.Plans.{BodyPlan}
use Rattle.check_model.specs.Typing.{TypingState, cut_to}
use Rattle.check_expr.specs.Steps.{with_stage}
use Rattle.check_expr.proofs.Doing.{moved, returns as returned}
use Rattle.check_expr.proofs.Keeping.{kept_as}
use Rattle.check_expr.proofs.functions.close.Goals as goal

pub returns-clause-means : goal.returns-clause-means
returns-clause-means c = λ left fs.
    let a = c.args in
    let w = a.typing.now in
    let w2 = c.leave.new.self in
    let end : BodyPlan = Give a.end in
    moved fs fs end end (cut_to (with_stage w (stage_after a.f a.end w.stage)) a.base) w2 w2 left left (Return a.end)
    refl
    (ap (λ (v : TypingState). cut_to v a.base) (sym c.settle.ensures.means) ∙ sym c.leave.ensures)
    (returned fs a.end w2 left)

pub returns-clause-kept : goal.returns-clause-kept
returns-clause-kept c =
    kept_as c.args.typing.now c.leave.new.self (cut_to c.settle.new.typing c.args.base) c.leave.ensures
    c.settle.ensures.kept
