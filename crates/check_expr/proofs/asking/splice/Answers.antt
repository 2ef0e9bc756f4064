use Rattle.std.proofs.Common.{ℕ, refl, sym, ap, ◌∙◌, arith}
use Rattle.tl_base.specs.declared.machine.Step.TheVariants.{Spent}
use Rattle.tl_base.specs.Plan.{Pay}
use Rattle.lua_value.specs.declared.value.Value.{Value}
use Rattle.terra_term.specs.declared.refusal.RefusalKind.TheVariants.{NotConstant}
use Rattle.exotype.specs.declared.became.Became.{Became}
use Rattle.exotype.specs.Becoming.{term_of, with_term_of, spliced_nodes}
use Rattle.check_model.specs.contracts.typing.Typing.{the_view}
use Rattle.check_model.specs.Plans.{BodyPlan, writing, on_became, refuse}
use Rattle.check_model.specs.Typing.{TypingState}
use Rattle.check_expr.specs.Steps.{with_stage}
use Rattle.check_expr.proofs.Doing.{moved, pays, unpaid}
use Rattle.check_expr.proofs.asking.splice.Goals as goal

pub returns-then-not-pay-clause-means : goal.returns-then-not-pay-clause-means
returns-then-not-pay-clause-means c = λ go fs.
    let a = c.args in
    let w = a.typing.now in
    let nodes = c.spliced_nodes-nodes.result in
    let rest : BodyPlan = writing (with_term_of w.stage a.value a.at) (on_became (term_of w.stage a.value) a.at a.site go) in
    let plan : ℕ → BodyPlan = λ k. Pay k rest in
    moved fs fs (plan (spliced_nodes w.stage a.value)) (plan nodes) w w w a.budget.now c.pay.new.self Spent
    (ap plan (ap (λ (v : TypingState). spliced_nodes v.stage a.value) (sym c.typing.view_is)
    ∙ ap (λ (x : Value). spliced_nodes (the_view c.typing.inside).stage x) (sym c.copy.ensures)
    ∙ sym c.spliced_nodes-nodes.ensures)) refl
    (unpaid fs nodes rest w a.budget.now c.pay.new.self c.if-not-pay.ensures.short c.if-not-pay.ensures.refused)

pub returns-in-Term-clause-means : goal.returns-in-Term-clause-means
returns-in-Term-clause-means c = λ go fs fs3 step w3 left3 goes.
    let a = c.args in
    let w = a.typing.now in
    let left = a.budget.now in
    let after = c.pay.new.self in
    let nodes = c.spliced_nodes-nodes.result in
    let rest : BodyPlan = writing (with_term_of w.stage a.value a.at) (on_became (term_of w.stage a.value) a.at a.site go) in
    let plan : ℕ → BodyPlan = λ k. Pay k rest in
    moved fs fs3 (plan (spliced_nodes w.stage a.value)) (plan nodes) w w w3 left left3 step
    (ap plan (ap (λ (v : TypingState). spliced_nodes v.stage a.value) (sym c.typing.view_is)
    ∙ ap (λ (x : Value). spliced_nodes (the_view c.typing.inside).stage x) (sym c.copy.ensures)
    ∙ sym c.spliced_nodes-nodes.ensures)) refl
    (pays fs fs3 nodes rest w w3 left after left3 step (grind (arith, c.if-not-pay.ensures.enough)) c.if-not-pay.ensures.paid
    (moved fs fs3 (on_became (term_of w.stage a.value) a.at a.site go) (go c.in-Term.term)
    (with_stage w (with_term_of w.stage a.value a.at)) c.term_of.new.typing w3 after left3 step
    (ap (λ (b : Became). on_became b a.at a.site go) (sym c.in_ok-became.ensures.term ∙ c.in-Term.is))
    (sym c.in_ok-became.ensures.ok) goes))

pub returns-in-Refused-clause-means : goal.returns-in-Refused-clause-means
returns-in-Refused-clause-means c = λ go fs.
    let a = c.args in
    let w = a.typing.now in
    let w2 = c.term_of.new.typing in
    let left = a.budget.now in
    let after = c.pay.new.self in
    let nodes = c.spliced_nodes-nodes.result in
    let step = c.refuse.result in
    let rest : BodyPlan = writing (with_term_of w.stage a.value a.at) (on_became (term_of w.stage a.value) a.at a.site go) in
    let plan : ℕ → BodyPlan = λ k. Pay k rest in
    moved fs fs (plan (spliced_nodes w.stage a.value)) (plan nodes) w w w2 left after step
    (ap plan (ap (λ (v : TypingState). spliced_nodes v.stage a.value) (sym c.typing.view_is)
    ∙ ap (λ (x : Value). spliced_nodes (the_view c.typing.inside).stage x) (sym c.copy.ensures)
    ∙ sym c.spliced_nodes-nodes.ensures)) refl
    (pays fs fs nodes rest w w2 left after after step (grind (arith, c.if-not-pay.ensures.enough)) c.if-not-pay.ensures.paid
    (moved fs fs (on_became (term_of w.stage a.value) a.at a.site go) (refuse NotConstant a.at a.site)
    (with_stage w (with_term_of w.stage a.value a.at)) w2 w2 after after step
    (ap (λ (b : Became). on_became b a.at a.site go) (sym c.in_ok-became.ensures.term ∙ c.in-Refused.is))
    (sym c.in_ok-became.ensures.ok) (c.refuse.ensures.means w2 after fs)))
