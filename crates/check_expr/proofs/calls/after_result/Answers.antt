use Rattle.tl_base.specs.declared.machine.Step.TheVariants.{Return}
use Rattle.tl_base.specs.Plan.{Give}
use Rattle.std.proofs.Common.{refl}
use Rattle.check_model.specs.Calls as models
use Rattle.check_expr.specs.Frames.{on_answer, operands_from}
use Rattle.check_expr.specs.Kept.{keeps_itself}
use Rattle.check_expr.proofs.Doing.{returns as returned, moved}
use Rattle.check_expr.proofs.Passing.{none_answered}
use Rattle.check_expr.proofs.calls.after_result.Goals as goal

pub returns-in_default : goal.returns-in_default
returns-in_default c =
    let a = c.args in
    let fs = a.frames.now.items in
    let w = a.typing.now in
    record {
      means = λ left.
          moved fs fs (on_answer a.end (λ x. models.on_result x a.frame.node.at a.frame.node.site (λ t. operands_from
          a.frame a.frame.fitting a.frame.ids t))) (Give a.end) w w w left left (Return a.end) (none_answered a.end (λ
          x. models.on_result x a.frame.node.at a.frame.node.site (λ t. operands_from a.frame a.frame.fitting
          a.frame.ids t)) c.in_default.not-Answered) refl
          (returned fs a.end w left);
      kept = keeps_itself w;
    }
