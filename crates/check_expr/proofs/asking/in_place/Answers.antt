use Rattle.std.proofs.Common.{subst}
use Rattle.tl_base.specs.declared.ids.TermId.{TermId}
use Rattle.tl_base.specs.declared.machine.Step.TheVariants.{Enter}
use Rattle.check_model.specs.declared.job.BodyJob.TheVariants as jobs
use Rattle.check_model.specs.Plans.{BodyPlan, give, typing}
use Rattle.check_expr.specs.declared.asking.Spliced.{Spliced}
use Rattle.check_expr.specs.Asking.{Splices}
use Rattle.check_expr.proofs.Answering.{types}
use Rattle.check_expr.proofs.asking.in_place.Goals as goal

pub returns-in-Term-clause-means : goal.returns-in-Term-clause-means
returns-in-Term-clause-means c = λ fs.
    let a = c.args in
    let w2 = c.splice.new.typing in
    let left2 = c.splice.new.budget in
    let t = c.in-Term.term in
    let go : TermId → BodyPlan = λ x. typing x a.site give in
    let means = subst (λ (x : Spliced). Splices a.value a.at a.site a.typing.now a.budget.now x w2 left2) c.in-Term.is
    c.in_ok-spliced.ensures.means in
    means go fs fs (Enter (jobs.Expression t a.site)) w2 left2 (types fs t a.site w2 left2)

pub returns-in-Ended-clause-means : goal.returns-in-Ended-clause-means
returns-in-Ended-clause-means c =
    let a = c.args in
    let w2 = c.splice.new.typing in
    let left2 = c.splice.new.budget in
    let go : TermId → BodyPlan = λ x. typing x a.site give in
    let means = subst (λ (x : Spliced). Splices a.value a.at a.site a.typing.now a.budget.now x w2 left2) c.in-Ended.is
    c.in_ok-spliced.ensures.means in
    means go
