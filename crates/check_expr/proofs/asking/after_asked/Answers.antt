use Rattle.std.proofs.Common.{refl}
use Rattle.tl_base.specs.declared.machine.Step.TheVariants.{Return}
use Rattle.tl_base.specs.Plan.{Give}
use Rattle.check_expr.specs.Frames.{on_answer, asked_then}
use Rattle.check_expr.specs.Kept.{keeps_itself}
use Rattle.check_expr.proofs.Doing.{moved, returns as returned}
use Rattle.check_expr.proofs.Passing.{none_answered}
use Rattle.check_expr.proofs.asking.after_asked.Goals as goal

pub returns-in_default : goal.returns-in_default
returns-in_default c =
    let a = c.args in
    let fs = a.frames.now.items in
    let w = a.typing.now in
    record {
      means =
          moved fs fs (on_answer a.end (λ x. asked_then a.then x)) (Give a.end) w w w a.budget.now a.budget.now (Return a.end)
          (none_answered a.end (λ x. asked_then a.then x) c.in_default.not-Answered) refl (returned fs a.end w a.budget.now);
      kept = keeps_itself w;
    }
