use Rattle.std.proofs.Common.{ℕ, [], length, refl, sym, ap}
use Rattle.check_model.specs.Expressions as expressions
use Rattle.check_model.specs.Plans.{BodyPlan}
use Rattle.check_expr.specs.declared.frame.BlockThen.TheVariants as of_block
use Rattle.check_expr.specs.Frames as waiting
use Rattle.check_expr.proofs.Doing.{moved}
use Rattle.tl_base.proofs.Results.{carried}
use Rattle.check_expr.proofs.statements.do_block.Goals as goal

pub returns-clause-means : goal.returns-clause-means
returns-clause-means c = carried _ _ c.block.result c.block.ensures.means (λ step g left.
    let a = c.args in
    let w = a.typing.now in
    let plan : ℕ → BodyPlan = λ count.
    expressions.statements a.body a.site [] (λ ids last. waiting.block_then (of_block.Do count a.at) ids last) in
    moved a.frames.now.items c.block.new.frames.items (plan (length w.variables)) (plan c.count.result) w w
    c.block.new.typing left left
    step (ap plan (sym c.count.ensures)) refl (g left))
