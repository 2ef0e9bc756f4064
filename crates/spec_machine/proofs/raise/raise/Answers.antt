use Rattle.std.proofs.Common.{◌≡◌, ℕ, ◌-◌, ◌≤◌, ◌<◌, List, length, refl, sym, ap, subst, ◌∙◌, arith}
use Rattle.lua_model.specs.Plans.{text_units}
use Rattle.spec_machine.proofs.Texts.{raises, raises_short}
use Rattle.spec_machine.proofs.raise.raise.Goals as goal

pub returns-then-not-pay-clause-means : goal.returns-then-not-pay-clause-means
returns-then-not-pay-clause-means c = λ items fs.
    let a = c.args in
    let bytes = c.as_slice-bytes.result.now in
    raises_short items fs a.place a.fault bytes a.world.now a.budget.now c.pay.new.self (c.as_slice-bytes.ensures ∙ c.in_ok-bytes.ensures)
    (subst (λ (n : ℕ). a.budget.now < n) c.text_units.ensures c.if-not-pay.ensures.short) c.if-not-pay.ensures.refused

pub returns-clause-means : goal.returns-clause-means
returns-clause-means c = λ items fs.
    let a = c.args in
    let bytes = c.as_slice-bytes.result.now in
    raises items fs a.place a.fault bytes c.in_ok-id.id a.world.now c.text.new.world a.budget.now c.pay.new.self
    (c.as_slice-bytes.ensures ∙ c.in_ok-bytes.ensures)
    (subst (λ (n : ℕ). n ≤ a.budget.now) c.text_units.ensures (grind (arith, c.if-not-pay.ensures.enough)))
    (c.if-not-pay.ensures.paid ∙ ap (λ (n : ℕ). a.budget.now - n) c.text_units.ensures) c.in_ok-id.ensures.means
