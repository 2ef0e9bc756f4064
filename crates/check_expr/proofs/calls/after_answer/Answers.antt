use Rattle.std.proofs.Common.{refl}
use Rattle.tl_base.specs.declared.ids.TypeId.{TypeId}
use Rattle.terra_term.specs.declared.refusal.RefusalKind.TheVariants.{Undefined}
use Rattle.check_model.specs.Calls as models
use Rattle.check_model.specs.Plans as plans
use Rattle.check_model.specs.Plans.{BodyPlan}
use Rattle.check_expr.specs.Frames.{operands_from}
use Rattle.check_expr.specs.Kept.{keeps_itself}
use Rattle.check_expr.proofs.Doing.{moved}
use Rattle.check_expr.proofs.Passing.{no_result}
use Rattle.check_expr.proofs.calls.after_answer.Goals as goal

pub returns-in_default : goal.returns-in_default
returns-in_default c =
    let a = c.args in
    let f = a.frame in
    let fs = a.frames.now.items in
    let w = a.typing.now in
    let go : TypeId → BodyPlan = λ t. operands_from f f.fitting f.ids t in
    record {
      means = λ left.
          moved fs fs (models.on_result a.answer f.node.at f.node.site go)
          (plans.refuse Undefined f.node.at f.node.site) w w w left left
          c.refuse.result (no_result a.answer f.node.at f.node.site go c.in_default.not-Result c.in_default.not-Refused)
          refl
          (c.refuse.ensures.means w left fs);
      kept = keeps_itself w;
    }
