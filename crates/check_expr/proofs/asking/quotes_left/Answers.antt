use Rattle.std.proofs.Common.{List, ◌∷◌, refl, ap, ◌∙◌}
use Rattle.tl_base.specs.declared.machine.Step.TheVariants.{Enter, Return}
use Rattle.check_model.specs.declared.end.PartEnd.TheVariants as ends
use Rattle.check_model.specs.declared.job.BodyJob.TheVariants as jobs
use Rattle.check_model.specs.declared.job.Operand.{Operand}
use Rattle.check_model.specs.declared.job.Operand.TheVariants.{Untyped, Typed}
use Rattle.check_model.specs.Plans.{BodyPlan, quotes_of, calling, in_place, give}
use Rattle.check_expr.specs.declared.frame.BodyFrame.TheVariants as frames
use Rattle.check_expr.specs.declared.frame.MadeFrame.TheVariants as of_made
use Rattle.check_expr.proofs.Doing.{moved, enters, bounces}
use Rattle.check_expr.proofs.asking.quotes_left.Goals as goal

pub returns-in-Untyped : goal.returns-in-Untyped
returns-in-Untyped c =
    let a = c.args in
    let f = a.frame in
    let fs = a.frames.now.items in
    let fs2 = c.push.new.self.items in
    let rest = record f { operands = c.take.new.self } in
    let job = jobs.Expression c.in-Untyped.term f.site in
    let plan : List Operand → BodyPlan = λ os.
    quotes_of os f.site f.values (λ given. calling f.handler given f.at f.site (λ v. in_place v f.at f.site give)) in
    record {
      means = λ w left.
          moved fs fs2 (plan f.operands) (plan (Untyped c.in-Untyped.term ∷ rest.operands)) w w w left left (Enter job)
          (ap plan c.in-Some.ensures ∙ ap (λ (o : Operand). plan (o ∷ rest.operands)) c.in-Untyped.is) refl
          (enters fs fs2 (frames.Made (of_made.Quoted rest)) job w left c.in_ok-push-in-Some.ensures.items);
    }

-- what is typed goes on below the frame that waits for it
pub returns-in-Typed : goal.returns-in-Typed
returns-in-Typed c =
    let a = c.args in
    let f = a.frame in
    let fs = a.frames.now.items in
    let fs2 = c.push.new.self.items in
    let rest = record f { operands = c.take.new.self } in
    let end = ends.Made c.in-Typed.made in
    let plan : List Operand → BodyPlan = λ os.
    quotes_of os f.site f.values (λ given. calling f.handler given f.at f.site (λ v. in_place v f.at f.site give)) in
    record {
      means = λ w left.
          moved fs fs2 (plan f.operands) (plan (Typed c.in-Typed.made ∷ rest.operands)) w w w left left (Return end)
          (ap plan c.in-Some.ensures ∙ ap (λ (o : Operand). plan (o ∷ rest.operands)) c.in-Typed.is) refl
          (bounces fs fs2 (frames.Made (of_made.Quoted rest)) end w left c.in_ok-push-in-Some.ensures.items);
    }
