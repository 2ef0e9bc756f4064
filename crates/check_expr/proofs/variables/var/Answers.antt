use Rattle.std.proofs.Common.{true, false, List, [], length, nat_eq, refl, sym, ap, ◌∙◌}
use Rattle.std.proofs.lemmas.Bool.{eq-eqb, ne_eqb}
use Rattle.tl_base.specs.declared.ids.TermId.{TermId}
use Rattle.terra_term.specs.declared.lists.TypedName.{TypedName}
use Rattle.terra_term.specs.declared.lists.VarName.{VarName}
use Rattle.terra_term.specs.declared.refusal.RefusalKind.TheVariants.{WrongCount}
use Rattle.check_model.specs.Plans.{BodyPlan, refuse}
use Rattle.check_model.specs.Statements as models
use Rattle.check_expr.specs.Frames as waiting
use Rattle.check_expr.proofs.Doing.{moved, chosen}
use Rattle.tl_base.proofs.Results.{carried}
use Rattle.check_expr.proofs.variables.var.Goals as goal

pub returns-in-None-clause-means : goal.returns-in-None-clause-means
returns-in-None-clause-means c = carried _ _ c.names_left.result c.names_left.ensures.means (λ step g.
    let a = c.args in
    let w = a.typing.now in
    let plan : List TypedName → List TermId → BodyPlan = λ named ids.
    models.names_for a.names a.at a.site named (λ all. waiting.var_names all ids a.at a.site) in
    rw c.in-None.is (moved a.frames.now.items c.names_left.new.frames.items (plan [] []) (plan c.new-named.result c.new-ids.result) w w
    c.names_left.new.typing a.budget.now c.names_left.new.budget step
    (ap (λ (named : List TypedName). plan named []) (sym c.new-named.ensures) ∙ ap (plan c.new-named.result) (sym c.new-ids.ensures)) refl
    g))

pub returns-then-given-wanted-clause-means : goal.returns-then-given-wanted-clause-means
returns-then-given-wanted-clause-means c =
    let a = c.args in
    let fs = a.frames.now.items in
    let w = a.typing.now in
    let left = a.budget.now in
    let values = c.in-Some.values in
    let body : BodyPlan = models.values_for a.names values a.site [] [] (λ names all. models.declaring names all a.at a.site) in
    rw c.in-Some.is (chosen fs fs (nat_eq (length a.names) (length values)) false body (refuse WrongCount a.at a.site)
    w w left left c.refuse.result
    (ne_eqb _ _ (λ same. c.if-given-wanted.true (c.len-given.ensures ∙ sym same ∙ sym c.len-wanted.ensures)))
    (c.refuse.ensures.means w left fs))

pub returns-else-given-wanted-clause-means : goal.returns-else-given-wanted-clause-means
returns-else-given-wanted-clause-means c = carried _ _ c.values_left.result c.values_left.ensures.means (λ step g.
    let a = c.args in
    let fs = a.frames.now.items in
    let fs2 = c.values_left.new.frames.items in
    let w = a.typing.now in
    let w2 = c.values_left.new.typing in
    let left = a.budget.now in
    let left2 = c.values_left.new.budget in
    let values = c.in-Some.values in
    let body : List VarName → List TermId → BodyPlan = λ typed ids.
    models.values_for a.names values a.site typed ids (λ names all. models.declaring names all a.at a.site) in
    rw c.in-Some.is (chosen fs fs2 (nat_eq (length a.names) (length values)) true (body [] []) (refuse WrongCount a.at
    a.site) w w2 left left2 step
    (eq-eqb _ _ (sym c.len-wanted.ensures ∙ sym c.if-given-wanted.false ∙ c.len-given.ensures))
    (moved fs fs2 (body [] []) (body c.new-typed.result c.new-none.result) w w w2 left left2 step
    (ap (λ (typed : List VarName). body typed []) (sym c.new-typed.ensures) ∙ ap (body c.new-typed.result) (sym c.new-none.ensures)) refl
    g)))
