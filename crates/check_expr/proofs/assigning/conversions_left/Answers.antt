use Rattle.std.proofs.Common.{List, ◌∷◌, refl, ap}
use Rattle.tl_base.specs.declared.ids.TermId.{TermId}
use Rattle.check_model.specs.declared.made.Made.{Made}
use Rattle.check_model.specs.Plans.{BodyPlan}
use Rattle.check_model.specs.Statements as models
use Rattle.check_expr.specs.Frames as waiting
use Rattle.check_expr.proofs.Doing.{moved}
use Rattle.tl_base.proofs.Results.{carried}
use Rattle.check_expr.proofs.assigning.conversions_left.Goals as goal

pub returns-in-None-clause-means : goal.returns-in-None-clause-means
returns-in-None-clause-means c = carried _ _ c.assigned.result c.assigned.ensures.means (λ step g left.
    let a = c.args in
    let f = a.frame in
    let fs = a.frames.now.items in
    let w = a.typing.now in
    let go : List TermId → BodyPlan = λ all. waiting.assigned f.targets all f.at f.site in
    let plan : List Made → BodyPlan = λ ms. models.converting_all ms f.places f.site f.ids go in
    moved fs fs (plan f.made) (go f.ids) w w c.assigned.new.typing left left step
    (ap plan c.in-None.ensures) refl (g left fs))

pub returns-in-Some-clause-means : goal.returns-in-Some-clause-means
returns-in-Some-clause-means c = carried _ _ c.conversion_left.result c.conversion_left.ensures.means (λ step g left.
    let a = c.args in
    let f = a.frame in
    let fs = a.frames.now.items in
    let w = a.typing.now in
    let go : List TermId → BodyPlan = λ all. waiting.assigned f.targets all f.at f.site in
    let plan : List Made → BodyPlan = λ ms. models.converting_all ms f.places f.site f.ids go in
    moved fs c.conversion_left.new.frames.items (plan f.made) (plan (c.in-Some.made ∷ c.take.new.self)) w w
    c.conversion_left.new.typing left left
    step (ap plan c.in-Some.ensures) refl (g left))
