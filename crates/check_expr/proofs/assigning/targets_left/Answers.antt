use Rattle.std.proofs.Common.{List, [], ◌∷◌, refl, sym, ap, ◌∙◌}
use Rattle.tl_base.specs.declared.ids.TermId.{TermId}
use Rattle.tl_base.specs.declared.machine.Step.TheVariants.{Enter}
use Rattle.check_model.specs.declared.job.BodyJob.TheVariants as jobs
use Rattle.check_model.specs.declared.made.Made.{Made}
use Rattle.check_model.specs.Plans.{BodyPlan, ids_of}
use Rattle.check_model.specs.Statements as models
use Rattle.check_expr.specs.declared.frame.BodyFrame.TheVariants as frames
use Rattle.check_expr.specs.declared.frame.DoingFrame.TheVariants as of_doing
use Rattle.check_expr.specs.Frames as waiting
use Rattle.check_expr.proofs.Doing.{moved, enters}
use Rattle.tl_base.proofs.Results.{carried}
use Rattle.check_expr.proofs.assigning.targets_left.Goals as goal

pub returns-in_ok-push-in-Some-clause-means : goal.returns-in_ok-push-in-Some-clause-means
returns-in_ok-push-in-Some-clause-means c = λ left.
    let a = c.args in
    let f = a.frame in
    let t = c.in-Some.target in
    let rest = c.take.new.self in
    let fs = a.frames.now.items in
    let fs2 = c.push.new.self.items in
    let w = a.typing.now in
    let job = jobs.Expression t f.site in
    let go : List Made → BodyPlan =
    λ ps. models.converting_all f.made ps f.site [] (λ ids. waiting.assigned (ids_of ps) ids f.at f.site) in
    let plan : List TermId → BodyPlan = λ ts. models.targets ts f.site f.places go in
    moved fs fs2 (plan f.targets) (plan (t ∷ rest)) w w w left left (Enter job) (ap plan c.in-Some.ensures) refl
    (enters fs fs2 (frames.Doing (of_doing.Target (record f { targets = rest }))) job w left c.in_ok-push-in-Some.ensures.items)

pub returns-in_ok-nodes-in-None-clause-means : goal.returns-in_ok-nodes-in-None-clause-means
returns-in_ok-nodes-in-None-clause-means c = carried _ _ c.conversions_left.result c.conversions_left.ensures.means (λ step g left.
    let a = c.args in
    let f = a.frame in
    let fs = a.frames.now.items in
    let w = a.typing.now in
    let nodes = c.in_ok-nodes-in-None.nodes in
    let values = c.from_list-values.result in
    let kept = c.from_list-kept.result in
    let all : List Made → List Made → List TermId → List TermId → BodyPlan =
    λ ms ps ns ids. models.converting_all ms ps f.site ids (λ done. waiting.assigned ns done f.at f.site) in
    let go : List Made → BodyPlan = λ ps. all f.made ps (ids_of ps) [] in
    let plan : List TermId → BodyPlan = λ ts. models.targets ts f.site f.places go in
    moved fs c.conversions_left.new.frames.items (plan f.targets) (all values kept nodes c.new.result) w w
    c.conversions_left.new.typing left left
    step
    (ap plan c.in-None.ensures ∙ ap (λ (ms : List Made). all ms f.places (ids_of f.places) []) (sym c.from_list-values.ensures)
    ∙ ap (λ (ps : List Made). all values ps (ids_of f.places) []) (sym c.from_list-kept.ensures)
    ∙ ap (λ (ns : List TermId). all values kept ns []) (ap ids_of (sym c.as_slice.ensures) ∙ sym c.in_ok-nodes-in-None.ensures)
    ∙ ap (all values kept nodes) (sym c.new.ensures)) refl
    (g left))
