use Rattle.std.proofs.Common.{List, ◌∷◌, refl, ap}
use Rattle.tl_base.specs.declared.ids.TermId.{TermId}
use Rattle.tl_base.specs.declared.machine.Step.TheVariants.{Enter}
use Rattle.terra_term.specs.declared.lists.VarName.{VarName}
use Rattle.check_model.specs.declared.job.BodyJob.TheVariants as jobs
use Rattle.check_model.specs.Plans.{BodyPlan}
use Rattle.check_model.specs.Statements as models
use Rattle.check_expr.specs.declared.frame.BodyFrame.TheVariants as frames
use Rattle.check_expr.specs.declared.frame.DoingFrame.TheVariants as of_doing
use Rattle.check_expr.proofs.Doing.{moved, enters}
use Rattle.tl_base.proofs.Results.{carried}
use Rattle.check_expr.proofs.variables.value_left.Goals as goal

pub returns-in-None-clause-means : goal.returns-in-None-clause-means
returns-in-None-clause-means c = carried _ _ c.declare.result c.declare.ensures.means (λ step g.
    let a = c.args in
    let f = a.frame in
    let fs = a.frames.now.items in
    let w = a.typing.now in
    let go : List VarName → List TermId → BodyPlan = λ names all. models.declaring names all f.at f.site in
    let plan : List TermId → BodyPlan = λ ts. models.values_for (a.name ∷ f.names) ts f.site f.typed f.ids go in
    moved fs c.declare.new.frames.items (plan f.values) (go f.typed f.ids) w w c.declare.new.typing a.budget.now c.declare.new.budget
    step (ap plan c.in-None.ensures) refl g)

pub returns-in_ok-push-in-Some-clause-means : goal.returns-in_ok-push-in-Some-clause-means
returns-in_ok-push-in-Some-clause-means c =
    let a = c.args in
    let f = a.frame in
    let fs = a.frames.now.items in
    let w = a.typing.now in
    let go : List VarName → List TermId → BodyPlan = λ names all. models.declaring names all f.at f.site in
    let plan : List TermId → BodyPlan = λ ts. models.values_for (a.name ∷ f.names) ts f.site f.typed f.ids go in
    let t = c.in-Some.value in
    let job = jobs.Expression t f.site in
    let left = a.budget.now in
    moved fs c.push.new.self.items (plan f.values) (plan (t ∷ c.take.new.self)) w w w left left (Enter job) (ap plan c.in-Some.ensures) refl
    (enters fs c.push.new.self.items (frames.Doing (of_doing.VarValue a.name (record f { values = c.take.new.self }))) job w left
    c.in_ok-push-in-Some.ensures.items)
