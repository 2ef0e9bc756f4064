use Rattle.std.proofs.Common.{◌≡◌, ℕ, List, length, Some, refl, sym, ap, ◌∙◌, rules}
use Rattle.std.specs.Prelude.{slice_get}
use Rattle.tl_base.specs.declared.ids.TermId.{TermId}
use Rattle.terra_term.specs.declared.term.Expression.TheVariants as e
use Rattle.terra_term.specs.declared.term.Term.TheVariants as kinds
use Rattle.check_model.specs.Expressions as models
use Rattle.check_model.specs.Plans.{BodyPlan}
use Rattle.check_expr.proofs.Doing.{moved}
use Rattle.check_expr.proofs.Expressing.{expresses}
use Rattle.tl_base.proofs.Results.{carried}
use Rattle.check_expr.proofs.expressions.expression.Goals as goal

pub returns-in_ok-statements-in-Let-clause-means : goal.returns-in_ok-statements-in-Let-clause-means
returns-in_ok-statements-in-Let-clause-means c = carried _ _ c.block.result c.block.ensures.means (λ step g.
    let a = c.args in
    let at = c.in-Some-Expression.at in
    let m = c.in-Let in
    let fs = a.frames.now.items in
    let fs2 = c.block.new.frames.items in
    let w = a.typing.now in
    let w2 = c.block.new.typing in
    let left = a.budget.now in
    let copy = c.in_ok-statements-in-Let.statements in
    let count = c.count.result in
    let found : slice_get w.stage.store.terms a.term.0 ≡ Some (kinds.Expression at (e.Let m.statements m.value)) =
    search rules in
    let counted : count ≡ length w.variables = search rules in
    let plan : ℕ → List TermId → BodyPlan = λ k ts. models.let_plan k ts m.value at a.term a.site in
    expresses fs fs2 a.term at (e.Let m.statements m.value) a.site w w2 left left step found
    (moved fs fs2 (plan (length w.variables) m.statements) (plan count copy) w w w2 left left step
    (ap (λ (k : ℕ). plan k m.statements) (sym counted)
    ∙ ap (plan count) (sym c.as_slice-in-Let.ensures ∙ sym c.in_ok-statements-in-Let.ensures)) refl
    (g left)))
