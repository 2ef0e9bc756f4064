use Rattle.std.proofs.Common.{ℕ, List, [], refl, sym, ap, ◌∙◌}
use Rattle.tl_base.specs.declared.ids.TermId.{TermId}
use Rattle.check_model.specs.Expressions as models
use Rattle.check_model.specs.Plans.{BodyPlan}
use Rattle.check_expr.proofs.Doing.{moved}
use Rattle.tl_base.proofs.Results.{carried}
use Rattle.check_expr.proofs.constructing.with_entries.Goals as goal

pub returns-clause-means : goal.returns-clause-means
returns-clause-means c = carried _ _ c.values_left.result c.values_left.ensures.means (λ step g left.
    let a = c.args in
    let n = a.node in
    let w = a.typing.now in
    let plan : List ℕ → List TermId → BodyPlan =
    λ offsets ids. models.into a.entries a.values n.at n.site offsets ids (models.constructed a.of n.at n.source) in
    moved a.frames.now.items c.values_left.new.frames.items (plan [] []) (plan c.new-offsets.result c.new-ids.result) w w
    c.values_left.new.typing left left step
    (ap (λ (offsets : List ℕ). plan offsets []) (sym c.new-offsets.ensures) ∙ ap (plan c.new-offsets.result) (sym c.new-ids.ensures)) refl
    (g left))
