use Rattle.std.proofs.Common.{List, [], ◌∷◌, ◌++◌, refl, sym, ap, ◌∙◌}
use Rattle.tl_base.specs.declared.ids.TermId.{TermId}
use Rattle.terra_term.specs.declared.lists.VarName.{VarName}
use Rattle.check_model.specs.Plans.{BodyPlan}
use Rattle.check_expr.specs.Frames as waiting
use Rattle.check_expr.proofs.Doing.{moved}
use Rattle.tl_base.proofs.Results.{carried}
use Rattle.check_expr.proofs.variables.ready.Goals as goal

pub returns-clause-means : goal.returns-clause-means
returns-clause-means c = carried _ _ c.values_left.result c.values_left.ensures.means (λ step g.
    let a = c.args in
    let f = a.frame in
    let w = a.typing.now in
    let ids = f.ids ++ a.made.id ∷ [] in
    let plan : List VarName → List TermId → BodyPlan = λ names all. waiting.var_from f names all in
    moved a.frames.now.items c.values_left.new.frames.items (plan (f.typed ++ waiting.with_type a.name a.of ∷ []) ids)
    (plan c.push.new.self c.push-2.new.self) w w c.values_left.new.typing a.budget.now c.values_left.new.budget step
    (ap (λ (names : List VarName). plan names ids) (sym c.in_ok-push.ensures.ok) ∙ ap (plan c.push.new.self) (sym c.in_ok-push-2.ensures.ok)) refl
    g)
