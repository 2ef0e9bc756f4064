use Rattle.std.proofs.Common.{sym, ap, ◌∙◌}
use Rattle.check_model.specs.Typing.{TypingState}
use Rattle.check_expr.specs.Forms.{stands_as}
use Rattle.check_expr.specs.Frames.{meet_right}
use Rattle.tl_base.proofs.Results.{carried}
use Rattle.check_expr.proofs.Staying.{stays}
use Rattle.check_expr.proofs.operators.meet_next.Goals as goal

pub returns-then-is_value_of-clause-means : goal.returns-then-is_value_of-clause-means
returns-then-is_value_of-clause-means c =
    let a = c.args in
    let f = a.frame in
    let fs = a.frames.now.items in
    carried _ _ c.both.result c.both.ensures.means (λ step g left.
    stays fs fs a.right f.meet f.node.site (λ y. meet_right f a.left y) a.typing.now c.both.new.typing left left step
    (ap (λ (v : TypingState). stands_as v.stage a.right.of f.meet) (sym c.typing.view_is) ∙ sym c.is_value_of.ensures
    ∙ c.if-is_value_of.true) (g left fs))
