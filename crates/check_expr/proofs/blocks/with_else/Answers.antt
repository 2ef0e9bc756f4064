use Rattle.std.proofs.Common.{List, None, sym, ap}
use Rattle.tl_base.specs.declared.ids.TermId.{TermId}
use Rattle.terra_term.specs.declared.typed.TypedStatement.TheVariants as ts
use Rattle.check_model.specs.Plans.{BodyPlan, states}
use Rattle.check_expr.proofs.Doing.{does_as}
use Rattle.tl_base.proofs.Results.{carried}
use Rattle.check_expr.proofs.blocks.with_else.Goals as goal

pub returns-in_ok-first-in-None-clause-means : goal.returns-in_ok-first-in-None-clause-means
returns-in_ok-first-in-None-clause-means c = carried _ _ c.states.result c.states.ensures.means (λ step g left.
    let a = c.args in
    let first = c.in_ok-first-in-None in
    let plan : List TermId → BodyPlan = λ ids. states a.at (ts.If a.test.id ids None) a.found in
    rw c.in-None.is (does_as a.frames.now.items (plan a.ids) (plan first.first) a.typing.now c.states.new.typing left
    left
    step (ap plan (sym first.ensures)) (g left)))

pub returns-in-Some-clause-means : goal.returns-in-Some-clause-means
returns-in-Some-clause-means c = carried _ _ c.else_block.result c.else_block.ensures.means (λ step g left. rw c.in-Some.is (g left))
