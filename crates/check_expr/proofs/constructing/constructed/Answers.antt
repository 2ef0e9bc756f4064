use Rattle.std.proofs.Common.{ℕ, List, sym, ap, ◌∙◌}
use Rattle.tl_base.specs.declared.ids.TermId.{TermId}
use Rattle.check_model.specs.Expressions as models
use Rattle.check_model.specs.Plans.{BodyPlan}
use Rattle.check_expr.proofs.Doing.{does_as}
use Rattle.tl_base.proofs.Results.{carried}
use Rattle.check_expr.proofs.constructing.constructed.Goals as goal

pub returns-clause-means : goal.returns-clause-means
returns-clause-means c = carried _ _ c.gives.result c.gives.ensures.means (λ step g left fs.
    let a = c.args in
    let f = a.frame in
    let n = f.node in
    let plan : List ℕ → List TermId → BodyPlan = λ offsets ids. models.constructed f.of n.at n.source offsets ids in
    does_as fs (plan f.offsets f.ids) (plan c.in_ok-offsets.offsets c.in_ok-list.list) a.typing.now c.gives.new.typing
    left left step
    (ap (λ (offsets : List ℕ). plan offsets f.ids) (sym c.in_ok-offsets.ensures)
    ∙ ap (plan c.in_ok-offsets.offsets) (sym c.in_ok-list.ensures)) (g left))
