use Rattle.std.proofs.Common.{List, [], refl, sym, ap}
use Rattle.tl_base.specs.declared.ids.TermId.{TermId}
use Rattle.check_model.specs.Expressions as expressions
use Rattle.check_model.specs.Plans.{BodyPlan}
use Rattle.check_expr.specs.Frames as waiting
use Rattle.check_expr.proofs.Doing.{moved}
use Rattle.tl_base.proofs.Results.{carried}
use Rattle.check_expr.proofs.blocks.block.Goals as goal

pub returns-clause-means : goal.returns-clause-means
returns-clause-means c = carried _ _ c.statements_left.result c.statements_left.ensures.means (λ step g left.
    let a = c.args in
    let w = a.typing.now in
    let plan : List TermId → BodyPlan =
    λ before. expressions.statements a.statements a.site before (λ ids last. waiting.block_then a.then ids last) in
    moved a.frames.now.items c.statements_left.new.frames.items (plan []) (plan c.new-ids.result) w w
    c.statements_left.new.typing left left
    step (ap plan (sym c.new-ids.ensures)) refl (g left))
