use Rattle.std.proofs.Common.{List, ◌∷◌, refl, ap}
use Rattle.tl_base.specs.declared.ids.TermId.{TermId}
use Rattle.terra_term.specs.declared.lists.VarName.{VarName}
use Rattle.check_model.specs.Plans.{BodyPlan}
use Rattle.check_model.specs.Statements as models
use Rattle.check_expr.proofs.Doing.{moved}
use Rattle.tl_base.proofs.Results.{carried}
use Rattle.check_expr.proofs.variables.values_left.Goals as goal

pub returns-in-None-clause-means : goal.returns-in-None-clause-means
returns-in-None-clause-means c = carried _ _ c.declare.result c.declare.ensures.means (λ step g.
    let a = c.args in
    let f = a.frame in
    let fs = a.frames.now.items in
    let w = a.typing.now in
    let go : List VarName → List TermId → BodyPlan = λ names all. models.declaring names all f.at f.site in
    let plan : List VarName → BodyPlan = λ ns. models.values_for ns f.values f.site f.typed f.ids go in
    moved fs c.declare.new.frames.items (plan f.names) (go f.typed f.ids) w w c.declare.new.typing a.budget.now c.declare.new.budget
    step (ap plan c.in-None.ensures) refl g)

pub returns-in-Some-clause-means : goal.returns-in-Some-clause-means
returns-in-Some-clause-means c = carried _ _ c.value_left.result c.value_left.ensures.means (λ step g.
    let a = c.args in
    let f = a.frame in
    let fs = a.frames.now.items in
    let w = a.typing.now in
    let go : List VarName → List TermId → BodyPlan = λ names all. models.declaring names all f.at f.site in
    let plan : List VarName → BodyPlan = λ ns. models.values_for ns f.values f.site f.typed f.ids go in
    moved fs c.value_left.new.frames.items (plan f.names) (plan (c.in-Some.name ∷ c.take.new.self)) w w c.value_left.new.typing a.budget.now
    c.value_left.new.budget step (ap plan c.in-Some.ensures) refl g)
