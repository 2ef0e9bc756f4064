use Rattle.std.proofs.Common.{◌≡◌, ℕ, true, [], length, refl, sym, ap, ◌∙◌, rules, arith}
use Rattle.std.proofs.lemmas.Bool.Decides.{nat_tests}
use Rattle.terra_types.specs.Making.{same_type}
use Rattle.terra_types.specs.Opening.{boolean}
use Rattle.terra_term.specs.declared.typed.TypedStatement.TheVariants as ts
use Rattle.check_model.specs.declared.site.Site.{Site}
use Rattle.check_model.specs.Expressions as expressions
use Rattle.check_model.specs.Plans.{BodyPlan, leaving, states}
use Rattle.check_model.specs.Statements as models
use Rattle.check_expr.proofs.Conditions.{as_bool}
use Rattle.check_expr.proofs.Doing.{moved}
use Rattle.tl_base.proofs.Results.{carried}
use Rattle.check_expr.proofs.loops.while_block.Goals as goal

pub returns-clause-means : goal.returns-clause-means
returns-clause-means c = carried _ _ c.block.result c.block.ensures.means (λ step g left.
    let a = c.args in
    let m = a.made in
    let fs = a.frames.now.items in
    let fs2 = c.block.new.frames.items in
    let w = a.typing.now in
    let w2 = c.block.new.typing in
    let n = c.count.result in
    let plan : Site → ℕ → BodyPlan = λ site count.
    expressions.statements a.body site [] (λ ids last. leaving count (states a.at (ts.While m.id ids) last)) in
    let first = plan (models.in_loop a.site) (length w.variables) in
    let is : same_type m.of boolean ≡ true = first_of (search rules, grind (arith, nat_tests)) in
    as_bool fs fs2 m a.site (models.block a.body (models.in_loop a.site)
    (λ ids last. states a.at (ts.While m.id ids) last)) w w2 left left step
    is
    (moved fs fs2 first (plan c.in_loop.result n) w w w2 left left step
    (ap (plan (models.in_loop a.site)) (sym c.count.ensures) ∙ ap (λ (site : Site). plan site n)
    (sym c.in_loop.ensures)) refl
    (g left)))
