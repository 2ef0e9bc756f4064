use Rattle.std.proofs.Common.{ℕ, List, ◌∷◌, Option, refl, ap}
use Rattle.tl_base.specs.declared.ids.TermId.{TermId}
use Rattle.terra_types.specs.declared.layout.Laid.{Laid}
use Rattle.check_model.specs.Expressions as models
use Rattle.check_model.specs.Plans.{BodyPlan}
use Rattle.check_expr.proofs.Doing.{moved}
use Rattle.tl_base.proofs.Results.{carried}
use Rattle.check_expr.proofs.constructing.values_left.Goals as goal

pub returns-in-None-clause-means : goal.returns-in-None-clause-means
returns-in-None-clause-means c = carried _ _ c.constructed.result c.constructed.ensures.means (λ step g left.
    let a = c.args in
    let f = a.frame in
    let fs = a.frames.now.items in
    let w = a.typing.now in
    let go : List ℕ → List TermId → BodyPlan = models.constructed f.of f.node.at f.node.source in
    let plan : List (Option Laid) → BodyPlan = λ ls. models.into ls f.values f.node.at f.node.site f.offsets f.ids go in
    moved fs fs (plan f.entries) (go f.offsets f.ids) w w c.constructed.new.typing left left step
    (ap plan c.in-None.ensures) refl (g left fs))

pub returns-in-Some-clause-means : goal.returns-in-Some-clause-means
returns-in-Some-clause-means c = carried _ _ c.value_left.result c.value_left.ensures.means (λ step g left.
    let a = c.args in
    let f = a.frame in
    let fs = a.frames.now.items in
    let w = a.typing.now in
    let go : List ℕ → List TermId → BodyPlan = models.constructed f.of f.node.at f.node.source in
    let plan : List (Option Laid) → BodyPlan = λ ls. models.into ls f.values f.node.at f.node.site f.offsets f.ids go in
    moved fs c.value_left.new.frames.items (plan f.entries) (plan (c.in-Some.entry ∷ c.take.new.self)) w w c.value_left.new.typing left left
    step (ap plan c.in-Some.ensures) refl (g left))
