use Rattle.std.proofs.Common.{List, [], ◌∷◌, ◌++◌, refl, sym, ap}
use Rattle.terra_term.specs.declared.lists.TypedName.{TypedName}
use Rattle.check_model.specs.Plans.{BodyPlan}
use Rattle.check_expr.specs.Frames as waiting
use Rattle.check_expr.proofs.Doing.{moved}
use Rattle.tl_base.proofs.Results.{carried}
use Rattle.check_expr.proofs.variables.with_name.Goals as goal

pub returns-clause-means : goal.returns-clause-means
returns-clause-means c = carried _ _ c.names_left.result c.names_left.ensures.means (λ step g.
    let a = c.args in
    let f = a.frame in
    let w = a.typing.now in
    let plan : List TypedName → BodyPlan = λ names. waiting.names_from f names in
    moved a.frames.now.items c.names_left.new.frames.items (plan (f.named ++ a.name ∷ [])) (plan c.push.new.self) w w
    c.names_left.new.typing a.budget.now c.names_left.new.budget
    step (ap plan (sym c.in_ok-push.ensures.ok)) refl g)
