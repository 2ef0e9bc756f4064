use Rattle.tl_base.specs.declared.machine.Step.TheVariants.{Return}
use Rattle.tl_base.specs.Plan.{Give}
use Rattle.std.proofs.Common.{refl}
use Rattle.check_model.specs.Plans.{on_made}
use Rattle.check_expr.specs.Frames as waiting
use Rattle.check_expr.specs.Kept.{keeps_itself}
use Rattle.check_expr.proofs.Doing.{returns as returned, moved}
use Rattle.check_expr.proofs.Passing.{none_made}
use Rattle.check_expr.proofs.machine.after_made.Goals as goal

pub returns-in_default : goal.returns-in_default
returns-in_default c =
    let a = c.args in
    let fs = a.frames.now.items in
    let w = a.typing.now in
    record {
      means =
          moved fs fs (on_made a.end (λ m. waiting.with_made a.frame m)) (Give a.end) w w w a.budget.now a.budget.now
          (Return a.end) (none_made a.end (λ m. waiting.with_made a.frame m) c.in_default.not-Made) refl
          (returned fs a.end w a.budget.now);
      kept = keeps_itself w;
    }
