use Rattle.std.proofs.Common.{List, sym, ap}
use Rattle.tl_base.specs.declared.ids.TermId.{TermId}
use Rattle.check_model.specs.Plans.{BodyPlan}
use Rattle.check_expr.specs.Frames as waiting
use Rattle.check_expr.proofs.Doing.{does_as}
use Rattle.tl_base.proofs.Results.{carried}
use Rattle.check_expr.proofs.assigning.assigned.Goals as goal

pub returns-clause-means : goal.returns-clause-means
returns-clause-means c = carried _ _ c.states.result c.states.ensures.means (λ step g left fs.
    let a = c.args in
    let f = a.frame in
    let plan : List TermId → BodyPlan = λ ids. waiting.assigned f.targets ids f.at f.site in
    does_as fs (plan f.ids) (plan c.in_ok-list.list) a.typing.now c.states.new.typing left left step
    (ap plan (sym c.in_ok-list.ensures)) (g left))
