use Rattle.check_expr.specs.declared.frame.DoingFrame.TheVariants as of_doing
use Rattle.check_expr.proofs.Behind.{behind_doing_value}
use Rattle.tl_base.proofs.Results.{carried}
use Rattle.check_expr.proofs.statements.perform.Goals as goal

pub returns-clause-means : goal.returns-clause-means
returns-clause-means c = carried _ _ c.as_value.result c.as_value.ensures.means (λ step g left.
    let a = c.args in
    behind_doing_value a.frames.now.items c.push.new.self.items c.as_value.new.frames.items
    (of_doing.Performed a.at a.site) a.made a.site
    a.typing.now a.typing.now left left step c.in_ok-push.ensures.items (g left))
