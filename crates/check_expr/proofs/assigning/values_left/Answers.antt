use Rattle.std.proofs.Common.{List, [], ◌∷◌, refl, sym, ap, ◌∙◌}
use Rattle.tl_base.specs.declared.ids.TermId.{TermId}
use Rattle.tl_base.specs.declared.machine.Step.TheVariants.{Enter}
use Rattle.check_model.specs.declared.made.Made.{Made}
use Rattle.check_model.specs.declared.job.BodyJob.TheVariants as jobs
use Rattle.check_model.specs.Plans.{BodyPlan, ids_of}
use Rattle.check_model.specs.Statements as models
use Rattle.check_expr.specs.declared.frame.BodyFrame.TheVariants as frames
use Rattle.check_expr.specs.declared.frame.DoingFrame.TheVariants as of_doing
use Rattle.check_expr.specs.Frames as waiting
use Rattle.check_expr.proofs.Doing.{moved, enters}
use Rattle.tl_base.proofs.Results.{carried}
use Rattle.check_expr.proofs.assigning.values_left.Goals as goal

pub returns-in_ok-push-in-Some-clause-means : goal.returns-in_ok-push-in-Some-clause-means
returns-in_ok-push-in-Some-clause-means c = λ left.
    let a = c.args in
    let f = a.frame in
    let t = c.in-Some.value in
    let fs = a.frames.now.items in
    let fs2 = c.push.new.self.items in
    let w = a.typing.now in
    let job = jobs.Expression t f.site in
    let plan : List TermId → BodyPlan = λ ts. models.typing_all ts f.site f.made (λ ms. models.targets f.targets f.site
    [] (λ ps. models.converting_all ms ps f.site [] (λ ids. waiting.assigned (ids_of ps) ids f.at f.site))) in
    moved fs fs2 (plan f.values) (plan (t ∷ c.take.new.self)) w w w left left (Enter job) (ap plan c.in-Some.ensures) refl
    (enters fs fs2 (frames.Doing (of_doing.Value (record f { values = c.take.new.self }))) job w left c.in_ok-push-in-Some.ensures.items)

pub returns-in-None-clause-means : goal.returns-in-None-clause-means
returns-in-None-clause-means c = carried _ _ c.targets_left.result c.targets_left.ensures.means (λ step g left.
    let a = c.args in
    let f = a.frame in
    let fs = a.frames.now.items in
    let w = a.typing.now in
    let plan : List TermId → BodyPlan = λ ts. models.typing_all ts f.site f.made (λ ms. models.targets f.targets f.site
    [] (λ ps. models.converting_all ms ps f.site [] (λ ids. waiting.assigned (ids_of ps) ids f.at f.site))) in
    let after : List Made → BodyPlan =
    λ ps. models.targets f.targets f.site ps (λ qs. models.converting_all f.made qs f.site [] (λ ids. waiting.assigned
    (ids_of qs) ids f.at f.site)) in
    moved fs c.targets_left.new.frames.items (plan f.values) (after c.new.result) w w c.targets_left.new.typing left
    left step
    (ap plan c.in-None.ensures ∙ ap after (sym c.new.ensures)) refl (g left))
