use Rattle.std.proofs.Common.{ℕ, List, ◌∷◌, Option, Some, refl, ap}
use Rattle.tl_base.specs.declared.ids.TermId.{TermId}
use Rattle.tl_base.specs.declared.machine.Step.TheVariants.{Enter}
use Rattle.terra_types.specs.declared.layout.Laid.{Laid}
use Rattle.check_model.specs.declared.job.BodyJob.TheVariants as jobs
use Rattle.check_model.specs.Expressions as models
use Rattle.check_model.specs.Plans.{BodyPlan}
use Rattle.check_expr.specs.declared.frame.BodyFrame.TheVariants as frames
use Rattle.check_expr.specs.declared.frame.MadeFrame.TheVariants as of_made
use Rattle.check_expr.proofs.Doing.{moved, enters}
use Rattle.check_expr.proofs.constructing.value_for.Goals as goal

pub returns-in_ok-push-in-Some : goal.returns-in_ok-push-in-Some
returns-in_ok-push-in-Some c =
    let a = c.args in
    let f = a.frame in
    let fs = a.frames.now.items in
    let w = a.typing.now in
    let go : List ℕ → List TermId → BodyPlan = models.constructed f.of f.node.at f.node.source in
    let plan : Option Laid → BodyPlan = λ l. models.into (l ∷ f.entries) (a.value ∷ f.values) f.node.at f.node.site f.offsets f.ids go in
    let job = jobs.Expression a.value f.node.site in
    record {
      means = λ left.
          moved fs c.push.new.self.items (plan a.entry) (plan (Some c.in-Some.laid)) w w w left left (Enter job) (ap plan c.in-Some.is) refl
          (enters fs c.push.new.self.items (frames.Made (of_made.Initial c.in-Some.laid f)) job w left c.in_ok-push-in-Some.ensures.items);
    }
