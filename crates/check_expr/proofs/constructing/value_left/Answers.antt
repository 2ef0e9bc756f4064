use Rattle.std.proofs.Common.{ℕ, List, ◌∷◌, refl, ap}
use Rattle.tl_base.specs.declared.ids.TermId.{TermId}
use Rattle.check_model.specs.Expressions as models
use Rattle.check_model.specs.Plans.{BodyPlan}
use Rattle.check_expr.proofs.Doing.{moved}
use Rattle.tl_base.proofs.Results.{carried}
use Rattle.check_expr.proofs.constructing.value_left.Goals as goal

pub returns-in-None-clause-means : goal.returns-in-None-clause-means
returns-in-None-clause-means c = carried _ _ c.constructed.result c.constructed.ensures.means (λ step g left.
    let a = c.args in
    let f = a.frame in
    let fs = a.frames.now.items in
    let w = a.typing.now in
    let go : List ℕ → List TermId → BodyPlan = models.constructed f.of f.node.at f.node.source in
    let plan : List TermId → BodyPlan = λ ts. models.into (a.entry ∷ f.entries) ts f.node.at f.node.site f.offsets f.ids go in
    moved fs fs (plan f.values) (go f.offsets f.ids) w w c.constructed.new.typing left left step
    (ap plan c.in-None.ensures) refl (g left fs))

pub returns-in-Some-clause-means : goal.returns-in-Some-clause-means
returns-in-Some-clause-means c = carried _ _ c.value_for.result c.value_for.ensures.means (λ step g left.
    let a = c.args in
    let f = a.frame in
    let fs = a.frames.now.items in
    let w = a.typing.now in
    let go : List ℕ → List TermId → BodyPlan = models.constructed f.of f.node.at f.node.source in
    let plan : List TermId → BodyPlan = λ ts. models.into (a.entry ∷ f.entries) ts f.node.at f.node.site f.offsets f.ids go in
    moved fs c.value_for.new.frames.items (plan f.values) (plan (c.in-Some.value ∷ c.take.new.self)) w w w left left
    step (ap plan c.in-Some.ensures) refl (g left))
