use Rattle.std.proofs.Common.{refl}
use Rattle.check_model.specs.Plans as plans
use Rattle.check_expr.specs.Frames.{laid_then}
use Rattle.check_expr.proofs.Doing.{moved}
use Rattle.check_expr.proofs.Passing.{laid_out_so}
use Rattle.tl_base.proofs.Results.{carried}
use Rattle.check_expr.proofs.layouts.after_answer.Goals as goal

pub returns-in_default-clause-means : goal.returns-in_default-clause-means
returns-in_default-clause-means c = carried _ _ c.with_layout.result c.with_layout.ensures.means (λ step g.
    let a = c.args in
    let rest = laid_then a.then a.site in
    moved a.frames.now.items c.with_layout.new.frames.items (plans.on_layout a.answer a.at a.site rest) rest a.typing.now a.typing.now
    c.with_layout.new.typing a.budget.now c.with_layout.new.budget step
    (laid_out_so a.answer a.at a.site rest c.in_default.not-NoLayout) refl g)
