use Rattle.std.proofs.Common.{ℕ, [], length, refl, sym, ap, ◌∙◌}
use Rattle.check_model.specs.declared.site.Site.{Site}
use Rattle.check_model.specs.Expressions as expressions
use Rattle.check_model.specs.Plans.{BodyPlan}
use Rattle.check_model.specs.Statements as models
use Rattle.check_expr.specs.declared.frame.BlockThen.TheVariants as of_block
use Rattle.check_expr.specs.Frames as waiting
use Rattle.check_expr.proofs.Doing.{moved}
use Rattle.tl_base.proofs.Results.{carried}
use Rattle.check_expr.proofs.loops.repeat_loop.Goals as goal

pub returns-clause-means : goal.returns-clause-means
returns-clause-means c = carried _ _ c.block.result c.block.ensures.means (λ step g left.
    let a = c.args in
    let w = a.typing.now in
    let n = c.count.result in
    let inner = models.in_loop a.site in
    let plan : Site → ℕ → BodyPlan = λ site count.
    expressions.statements a.body site [] (λ ids last. waiting.block_then (of_block.Repeat count a.test a.at a.site)
    ids last) in
    moved a.frames.now.items c.block.new.frames.items (plan inner (length w.variables)) (plan c.in_loop.result n) w w
    c.block.new.typing left left step
    (ap (plan inner) (sym c.count.ensures) ∙ ap (λ (site : Site). plan site n) (sym c.in_loop.ensures)) refl
    (g left))
