use Rattle.std.proofs.Common.{subst}
use Rattle.tl_base.specs.declared.ids.TermId.{TermId}
use Rattle.check_model.specs.Calls as models
use Rattle.check_model.specs.Plans.{BodyPlan}
use Rattle.check_expr.specs.declared.asking.Spliced.{Spliced}
use Rattle.check_expr.specs.Asking.{Splices}
use Rattle.check_expr.specs.Kept.{keeps_then}
use Rattle.tl_base.proofs.Results.{carried, on-ok}
use Rattle.check_expr.proofs.calls.call_becoming.Goals as goal

pub returns-in-Term-clause-means : goal.returns-in-Term-clause-means
returns-in-Term-clause-means c = carried _ _ c.call_term.result c.call_term.ensures.means (λ step g.
    let a = c.args in
    let n = a.node in
    let w2 = c.splice.new.typing in
    let left2 = c.splice.new.budget in
    let go : TermId → BodyPlan = λ t. models.call_term t a.operands.items n.at a.fitting n.source n.site in
    let means = subst (λ (x : Spliced). Splices a.value n.at n.site a.typing.now a.budget.now x w2 left2) c.in-Term.is
    c.in_ok-spliced.ensures.means in
    means go a.frames.now.items c.call_term.new.frames.items step c.call_term.new.typing
    c.call_term.new.budget g)

pub returns-in-Term-clause-kept : goal.returns-in-Term-clause-kept
returns-in-Term-clause-kept c = on-ok c.call_term.result c.call_term.ensures.kept (λ g.
    keeps_then c.args.typing.now c.splice.new.typing c.call_term.new.typing c.in_ok-spliced.ensures.kept
    g)

pub returns-in-Ended-clause-means : goal.returns-in-Ended-clause-means
returns-in-Ended-clause-means c =
    let a = c.args in
    let n = a.node in
    let w2 = c.splice.new.typing in
    let left2 = c.splice.new.budget in
    let go : TermId → BodyPlan = λ t. models.call_term t a.operands.items n.at a.fitting n.source n.site in
    let means = subst (λ (x : Spliced). Splices a.value n.at n.site a.typing.now a.budget.now x w2 left2) c.in-Ended.is
    c.in_ok-spliced.ensures.means in
    means go a.frames.now.items
