use Rattle.tl_base.specs.declared.machine.Step.TheVariants.{Return}
use Rattle.tl_base.specs.Plan.{Give}
use Rattle.std.proofs.Common.{List, [], ◌∷◌, ◌++◌, refl, sym, ap}
use Rattle.tl_base.specs.declared.ids.TermId.{TermId}
use Rattle.check_model.specs.Plans as plans
use Rattle.check_model.specs.Plans.{BodyPlan}
use Rattle.check_expr.specs.Frames as waiting
use Rattle.check_expr.specs.Kept.{keeps_itself}
use Rattle.check_expr.proofs.Doing.{returns as returned, moved}
use Rattle.check_expr.proofs.Passing.{none_stated}
use Rattle.tl_base.proofs.Results.{carried}
use Rattle.check_expr.proofs.blocks.after_statement.Goals as goal

pub returns-in_default : goal.returns-in_default
returns-in_default c =
    let a = c.args in
    let fs = a.frames.now.items in
    let w = a.typing.now in
    record {
      means = λ left.
          moved fs fs (plans.on_stated a.end (λ id found. waiting.block_from a.frame found (a.frame.ids ++ id ∷ [])))
          (Give a.end) w w w left left (Return a.end) (none_stated a.end (λ id found. waiting.block_from a.frame found
          (a.frame.ids ++ id ∷ [])) c.in_default.not-Stated) refl
          (returned fs a.end w left);
      kept = keeps_itself w;
    }

pub returns-in_ok-push-in-Stated-clause-means : goal.returns-in_ok-push-in-Stated-clause-means
returns-in_ok-push-in-Stated-clause-means c = carried _ _ c.statements_left.result c.statements_left.ensures.means (λ step g left.
    let a = c.args in
    let f = a.frame in
    let m = c.in-Stated in
    let w = a.typing.now in
    let plan : List TermId → BodyPlan = λ ids. waiting.block_from f m.found ids in
    rw m.is (moved a.frames.now.items c.statements_left.new.frames.items (plan (f.ids ++ m.id ∷ []))
    (plan c.push.new.self) w w
    c.statements_left.new.typing left left step (ap plan (sym c.in_ok-push-in-Stated.ensures.ok))
    refl
    (g left)))
