use Rattle.std.proofs.Common.{ℕ, sym, ap, ◌∙◌}
use Rattle.terra_types.specs.Opening.{uint64}
use Rattle.terra_term.specs.declared.operators.Constant.TheVariants as constants
use Rattle.terra_term.specs.declared.typed.TypedExpression.TheVariants as te
use Rattle.check_model.specs.Plans.{BodyPlan, gives}
use Rattle.check_model.specs.Typing.{TypingState, bytes_in}
use Rattle.check_expr.proofs.Doing.{does_as}
use Rattle.tl_base.proofs.Results.{carried}
use Rattle.check_expr.proofs.layouts.size.Goals as goal

pub returns-clause-means : goal.returns-clause-means
returns-clause-means c = carried _ _ c.gives.result c.gives.ensures.means (λ step g left fs.
    let a = c.args in
    let n = a.node in
    let w = a.typing.now in
    let plan : ℕ → BodyPlan = λ k. gives n.source n.at uint64 (te.Constant (constants.Number k)) in
    does_as fs (plan (bytes_in w.stage a.of)) (plan c.bytes-size.result) w c.gives.new.typing left left step
    (ap plan (ap (λ (v : TypingState). bytes_in v.stage a.of) (sym c.typing.view_is) ∙ sym c.bytes-size.ensures))
    (g left))
