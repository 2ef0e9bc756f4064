use Rattle.std.proofs.Common.{true, false, List, [], length, nat_eq, refl, sym, ap, ◌∙◌}
use Rattle.std.proofs.lemmas.Bool.{eq-eqb, ne_eqb}
use Rattle.tl_base.specs.declared.ids.TermId.{TermId}
use Rattle.terra_term.specs.declared.operators.Operation.TheVariants as operations
use Rattle.terra_term.specs.declared.refusal.RefusalKind.TheVariants.{WrongCount}
use Rattle.terra_term.specs.declared.typed.TypedExpression.TheVariants as te
use Rattle.check_model.specs.Calls as models
use Rattle.check_model.specs.Plans.{BodyPlan, refuse, gives}
use Rattle.check_expr.proofs.Doing.{moved, chosen}
use Rattle.tl_base.proofs.Results.{carried}
use Rattle.check_expr.proofs.calls.call_by.Goals as goal

pub returns-then-given-wanted-clause-means : goal.returns-then-given-wanted-clause-means
returns-then-given-wanted-clause-means c = λ left.
    let a = c.args in
    let n = a.node in
    let fs = a.frames.now.items in
    let w = a.typing.now in
    let body : BodyPlan = models.arguments a.fitting a.operands a.types n.at n.site []
    (λ ids. gives n.source n.at a.of (te.Operate (operations.Primitive a.primitive) ids)) in
    chosen fs fs (nat_eq (length a.operands) (length a.types)) false body (refuse WrongCount n.at n.site) w w left left
    c.refuse.result
    (ne_eqb _ _ (λ same. c.if-given-wanted.true (c.len-given.ensures ∙ same ∙ sym c.len-wanted.ensures)))
    (c.refuse.ensures.means w left fs)

pub returns-clause-means : goal.returns-clause-means
returns-clause-means c = carried _ _ c.operands_left.result c.operands_left.ensures.means (λ step g left.
    let a = c.args in
    let n = a.node in
    let fs = a.frames.now.items in
    let fs2 = c.operands_left.new.frames.items in
    let w = a.typing.now in
    let w2 = c.operands_left.new.typing in
    let body : List TermId → BodyPlan = λ before. models.arguments a.fitting a.operands a.types n.at n.site before
    (λ ids. gives n.source n.at a.of (te.Operate (operations.Primitive a.primitive) ids)) in
    chosen fs fs2 (nat_eq (length a.operands) (length a.types)) true (body []) (refuse WrongCount n.at n.site) w w2 left
    left step
    (eq-eqb _ _ (sym c.len-given.ensures ∙ c.if-given-wanted.false ∙ c.len-wanted.ensures))
    (moved fs fs2 (body []) (body c.new.result) w w w2 left left step (ap body (sym c.new.ensures)) refl
    (g left)))
