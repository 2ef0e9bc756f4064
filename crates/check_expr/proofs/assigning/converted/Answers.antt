use Rattle.std.proofs.Common.{List, [], ◌∷◌, ◌++◌, refl, sym, ap}
use Rattle.tl_base.specs.declared.ids.TermId.{TermId}
use Rattle.check_model.specs.Plans.{BodyPlan}
use Rattle.check_expr.specs.Frames as waiting
use Rattle.check_expr.proofs.Doing.{moved}
use Rattle.tl_base.proofs.Results.{carried}
use Rattle.check_expr.proofs.assigning.converted.Goals as goal

pub returns-clause-means : goal.returns-clause-means
returns-clause-means c = carried _ _ c.conversions_left.result c.conversions_left.ensures.means (λ step g left.
    let a = c.args in
    let f = a.frame in
    let w = a.typing.now in
    let plan : List TermId → BodyPlan = λ ids. waiting.assigned_from f ids in
    moved a.frames.now.items c.conversions_left.new.frames.items (plan (f.ids ++ a.made.id ∷ [])) (plan
    c.push.new.self) w w c.conversions_left.new.typing left left
    step (ap plan (sym c.in_ok-push.ensures.ok)) refl (g left))
