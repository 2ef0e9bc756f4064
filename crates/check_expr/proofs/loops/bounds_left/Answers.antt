use Rattle.std.proofs.Common.{List, [], ◌∷◌, refl, sym, ap, ◌∙◌}
use Rattle.tl_base.specs.declared.ids.TermId.{TermId}
use Rattle.tl_base.specs.declared.ids.TypeId.{TypeId}
use Rattle.tl_base.specs.declared.machine.Step.TheVariants.{Enter}
use Rattle.check_model.specs.contracts.typing.Typing.{the_view}
use Rattle.check_model.specs.declared.job.BodyJob.TheVariants as jobs
use Rattle.check_model.specs.declared.made.Made.{Made}
use Rattle.check_model.specs.Plans.{BodyPlan, reading}
use Rattle.check_model.specs.Statements as models
use Rattle.check_model.specs.Typing.{TypingState}
use Rattle.check_expr.specs.declared.frame.BodyFrame.TheVariants as frames
use Rattle.check_expr.specs.declared.frame.DoingFrame.TheVariants as of_doing
use Rattle.check_expr.specs.Frames as waiting
use Rattle.check_expr.proofs.Doing.{moved, enters}
use Rattle.tl_base.proofs.Results.{carried}
use Rattle.check_expr.proofs.loops.bounds_left.Goals as goal

pub returns-in_ok-push-in-Some-clause-means : goal.returns-in_ok-push-in-Some-clause-means
returns-in_ok-push-in-Some-clause-means c = λ left.
    let a = c.args in
    let f = a.frame in
    let t = c.in-Some.bound in
    let rest = c.take.new.self in
    let fs = a.frames.now.items in
    let fs2 = c.push.new.self.items in
    let w = a.typing.now in
    let job = jobs.Expression t f.site in
    let go : List Made → BodyPlan =
    λ ms. reading (λ v. models.counting (models.meet_of v ms) f.name ms f.body f.at f.site) in
    let plan : List TermId → BodyPlan = λ ts. models.integers ts f.site f.made go in
    moved fs fs2 (plan f.bounds) (plan (t ∷ rest)) w w w left left (Enter job) (ap plan c.in-Some.ensures) refl
    (enters fs fs2 (frames.Doing (of_doing.Bound (record f { bounds = rest }))) job w left
    c.in_ok-push-in-Some.ensures.items)

pub returns-in-None-clause-means : goal.returns-in-None-clause-means
returns-in-None-clause-means c = carried _ _ c.conversions_left.result c.conversions_left.ensures.means (λ step g left.
    let a = c.args in
    let f = a.frame in
    let fs = a.frames.now.items in
    let fs2 = c.conversions_left.new.frames.items in
    let w = a.typing.now in
    let w2 = c.conversions_left.new.typing in
    let of = c.meet_of-of.result in
    let rest = c.from_list.result in
    let go : List Made → BodyPlan =
    λ ms. reading (λ v. models.counting (models.meet_of v ms) f.name ms f.body f.at f.site) in
    let plan : List TermId → BodyPlan = λ ts. models.integers ts f.site f.made go in
    let all : TypeId → List Made → List TermId → BodyPlan =
    λ t ms ids. models.all_to t ms f.site ids (λ done. waiting.for_body t f.name done f.body f.at f.site) in
    moved fs fs2 (plan f.bounds) (go f.made) w w w2 left left step (ap plan c.in-None.ensures) refl
    (moved fs fs2 (all (models.meet_of w.stage f.made) f.made []) (all of rest c.new.result) w w w2 left left step
    (ap (λ (t : TypeId). all t f.made [])
    (ap (λ (v : TypingState). models.meet_of v.stage f.made) (sym c.typing.view_is)
    ∙ ap (models.meet_of (the_view c.typing.inside).stage) (sym c.as_slice.ensures) ∙ sym c.meet_of-of.ensures)
    ∙ ap (λ (ms : List Made). all of ms []) (sym c.from_list.ensures) ∙ ap (all of rest) (sym c.new.ensures)) refl
    (g left)))
