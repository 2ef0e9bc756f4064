use Rattle.std.proofs.Common.{true, false, List, [], length, nat_eq, refl, sym, ap, ◌∙◌}
use Rattle.std.proofs.lemmas.Bool.{eq-eqb, ne_eqb}
use Rattle.terra_term.specs.declared.refusal.RefusalKind.TheVariants.{WrongCount}
use Rattle.check_model.specs.declared.made.Made.{Made}
use Rattle.check_model.specs.Plans.{BodyPlan, refuse, ids_of}
use Rattle.check_model.specs.Statements as models
use Rattle.check_expr.specs.Frames as waiting
use Rattle.check_expr.proofs.Doing.{moved, chosen}
use Rattle.tl_base.proofs.Results.{carried}
use Rattle.check_expr.proofs.assigning.assign.Goals as goal

pub returns-then-given-wanted-clause-means : goal.returns-then-given-wanted-clause-means
returns-then-given-wanted-clause-means c = λ left.
    let a = c.args in
    let fs = a.frames.now.items in
    let w = a.typing.now in
    let body : BodyPlan = models.typing_all a.values a.site [] (λ ms. models.targets a.targets a.site [] (λ ps.
    models.converting_all ms ps a.site [] (λ ids. waiting.assigned (ids_of ps) ids a.at a.site))) in
    chosen fs fs (nat_eq (length a.targets) (length a.values)) false body (refuse WrongCount a.at a.site) w w left left c.refuse.result
    (ne_eqb _ _ (λ same. c.if-given-wanted.true (c.len-given.ensures ∙ sym same ∙ sym c.len-wanted.ensures)))
    (c.refuse.ensures.means w left fs)

pub returns-clause-means : goal.returns-clause-means
returns-clause-means c = carried _ _ c.values_left.result c.values_left.ensures.means (λ step g left.
    let a = c.args in
    let fs = a.frames.now.items in
    let fs2 = c.values_left.new.frames.items in
    let w = a.typing.now in
    let w2 = c.values_left.new.typing in
    let body : List Made → BodyPlan = λ before. models.typing_all a.values a.site before (λ ms. models.targets a.targets a.site [] (λ ps.
    models.converting_all ms ps a.site [] (λ ids. waiting.assigned (ids_of ps) ids a.at a.site))) in
    chosen fs fs2 (nat_eq (length a.targets) (length a.values)) true (body []) (refuse WrongCount a.at a.site) w w2 left left step
    (eq-eqb _ _ (sym c.len-wanted.ensures ∙ sym c.if-given-wanted.false ∙ c.len-given.ensures))
    (moved fs fs2 (body []) (body c.new.result) w w w2 left left step (ap body (sym c.new.ensures)) refl (g left)))
