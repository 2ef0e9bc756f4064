use Rattle.std.proofs.Common.{ℕ, List, [], ◌∷◌, ◌++◌, refl, sym, ap, ◌∙◌}
use Rattle.tl_base.specs.declared.ids.TermId.{TermId}
use Rattle.check_model.specs.Plans.{BodyPlan}
use Rattle.check_expr.specs.Frames.{values_from}
use Rattle.check_expr.proofs.Doing.{moved}
use Rattle.tl_base.proofs.Results.{carried}
use Rattle.check_expr.proofs.constructing.initialised.Goals as goal

pub returns-clause-means : goal.returns-clause-means
returns-clause-means c = carried _ _ c.values_left.result c.values_left.ensures.means (λ step g left.
    let a = c.args in
    let f = a.frame in
    let w = a.typing.now in
    let all = f.ids ++ a.made.id ∷ [] in
    let plan : List ℕ → List TermId → BodyPlan = λ offsets ids. values_from f offsets ids in
    moved a.frames.now.items c.values_left.new.frames.items (plan (f.offsets ++ a.laid.offset ∷ []) all)
    (plan c.push.new.self c.push-2.new.self) w w c.values_left.new.typing left left step
    (ap (λ (offsets : List ℕ). plan offsets all) (sym c.in_ok-push.ensures.ok) ∙ ap (plan c.push.new.self) (sym c.in_ok-push-2.ensures.ok)) refl
    (g left))
