use Rattle.std.proofs.Common.{ℕ, ◌-◌, [], refl, sym, ap, ◌∙◌}
use Rattle.tl_base.specs.declared.machine.Step.TheVariants.{Spent}
use Rattle.tl_base.specs.Plan.{Pay}
use Rattle.exotype.specs.Terms.{typed_size}
use Rattle.check_model.specs.Expressions.{wrong_in, scoped}
use Rattle.check_model.specs.Plans.{BodyPlan}
use Rattle.check_model.specs.Typing.{TypingState}
use Rattle.check_expr.proofs.Doing.{moved, unpaid}
use Rattle.check_expr.proofs.Walking.{all_events}
use Rattle.check_expr.proofs.quoted.typed_quote.Goals as goal

pub returns-then-not-pay : goal.returns-then-not-pay
returns-then-not-pay c =
    let a = c.args in
    let w = a.typing.now in
    let left = a.budget.now in
    let nodes = c.nodes_below-nodes.result in
    let then : BodyPlan = scoped (wrong_in w a.site.base [] [] (all_events w a.made)) a.source a.made a.site in
    let plan : ℕ → BodyPlan = λ n. Pay n then in
    record {
      means = λ fs.
          moved fs fs (plan ((typed_size w.stage a.made).nodes - 1)) (plan nodes) w w w left c.pay.new.self Spent
          (ap plan (ap (λ (v : TypingState). (typed_size v.stage a.made).nodes - 1) (sym c.typing.view_is)
          ∙ sym c.nodes_below-nodes.ensures)) refl
          (unpaid fs nodes then w left c.pay.new.self c.if-not-pay.ensures.short c.if-not-pay.ensures.refused);
    }
