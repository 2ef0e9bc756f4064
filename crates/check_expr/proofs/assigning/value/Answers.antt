use Rattle.std.proofs.Common.{List, [], ◌∷◌, ◌++◌, refl, sym, ap}
use Rattle.check_model.specs.declared.made.Made.{Made}
use Rattle.check_model.specs.Plans.{BodyPlan}
use Rattle.check_expr.specs.Frames as waiting
use Rattle.check_expr.proofs.Doing.{moved}
use Rattle.tl_base.proofs.Results.{carried}
use Rattle.check_expr.proofs.assigning.value.Goals as goal

pub returns-clause-means : goal.returns-clause-means
returns-clause-means c = carried _ _ c.values_left.result c.values_left.ensures.means (λ step g left.
    let a = c.args in
    let f = a.frame in
    let w = a.typing.now in
    let plan : List Made → BodyPlan = λ ms. waiting.assigned_values f ms in
    moved a.frames.now.items c.values_left.new.frames.items (plan (f.made ++ a.made ∷ [])) (plan c.push.new.self) w w
    c.values_left.new.typing left left
    step (ap plan (sym c.in_ok-push.ensures.ok)) refl (g left))
