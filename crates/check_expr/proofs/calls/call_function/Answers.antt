use Rattle.std.proofs.Common.{true, false, List, [], length, nat_eq, refl, sym, ap, ◌∙◌}
use Rattle.std.proofs.lemmas.Bool.{eq-eqb, ne_eqb}
use Rattle.tl_base.specs.declared.ids.TermId.{TermId}
use Rattle.terra_term.specs.declared.operators.Operation.TheVariants as operations
use Rattle.terra_term.specs.declared.refusal.RefusalKind.TheVariants.{Undefined, WrongCount}
use Rattle.terra_term.specs.declared.typed.TypedExpression.TheVariants as te
use Rattle.check_model.specs.Calls as models
use Rattle.check_model.specs.Plans.{BodyPlan, refuse, gives}
use Rattle.check_model.specs.Typing.{TypingState, function_at}
use Rattle.check_expr.proofs.Calling.{function_unknown, function_known}
use Rattle.check_expr.proofs.Doing.{moved, chosen}
use Rattle.tl_base.proofs.Results.{carried}
use Rattle.check_expr.proofs.calls.call_function.Goals as goal

pub returns-in-None-clause-means : goal.returns-in-None-clause-means
returns-in-None-clause-means c = λ left.
    let a = c.args in
    let n = a.node in
    let fs = a.frames.now.items in
    let w = a.typing.now in
    let x = function_at w.stage a.f in
    moved fs fs (models.call_function w.stage a.f x a.operands n.at a.fitting n.source n.site) (refuse Undefined n.at
    n.site) w w w left left
    c.refuse.result
    (function_unknown w.stage a.f x a.operands n.at a.fitting n.source n.site
    (ap (λ (v : TypingState). models.parameters_of v.stage a.f) (sym c.typing.view_is) ∙ sym c.in_ok-known.ensures ∙
    c.in-None.is)) refl
    (c.refuse.ensures.means w left fs)

pub returns-then-given-wanted-clause-means : goal.returns-then-given-wanted-clause-means
returns-then-given-wanted-clause-means c = λ left.
    let a = c.args in
    let n = a.node in
    let fs = a.frames.now.items in
    let w = a.typing.now in
    let x = function_at w.stage a.f in
    let ps = c.in-Some.types in
    let step = c.refuse-then-given-wanted.result in
    let body : BodyPlan = models.by_result (models.result_of w.stage a.f) a.f n.at n.site (λ result.
    models.arguments a.fitting a.operands ps n.at n.site [] (λ ids. gives n.source n.at result
    (te.Operate (operations.Call a.f) ids))) in
    moved fs fs (models.call_function w.stage a.f x a.operands n.at a.fitting n.source n.site)
    (models.counted a.operands ps n.at n.site body) w w w left left step
    (function_known w.stage a.f x ps a.operands n.at a.fitting n.source n.site
    (ap (λ (v : TypingState). models.parameters_of v.stage a.f) (sym c.typing.view_is) ∙ sym c.in_ok-known.ensures ∙
    c.in-Some.is)) refl
    (chosen fs fs (nat_eq (length a.operands) (length ps)) false body (refuse WrongCount n.at n.site) w w left left step
    (ne_eqb _ _ (λ same. c.if-given-wanted.true (c.len-given.ensures ∙ same ∙ sym c.len-wanted.ensures)))
    (c.refuse-then-given-wanted.ensures.means w left fs))

pub returns-else-given-wanted-clause-means : goal.returns-else-given-wanted-clause-means
returns-else-given-wanted-clause-means c = carried _ _ c.by_result.result c.by_result.ensures.means (λ step g left.
    let a = c.args in
    let n = a.node in
    let fs = a.frames.now.items in
    let fs2 = c.by_result.new.frames.items in
    let w = a.typing.now in
    let w2 = c.by_result.new.typing in
    let x = function_at w.stage a.f in
    let ps = c.in-Some.types in
    let body : List TermId → BodyPlan = λ before. models.by_result (models.result_of w.stage a.f) a.f n.at n.site
    (λ result.
    models.arguments a.fitting a.operands ps n.at n.site before (λ ids. gives n.source n.at result (te.Operate
    (operations.Call a.f) ids))) in
    moved fs fs2 (models.call_function w.stage a.f x a.operands n.at a.fitting n.source n.site)
    (models.counted a.operands ps n.at n.site (body [])) w w w2 left left step
    (function_known w.stage a.f x ps a.operands n.at a.fitting n.source n.site
    (ap (λ (v : TypingState). models.parameters_of v.stage a.f) (sym c.typing.view_is) ∙ sym c.in_ok-known.ensures ∙
    c.in-Some.is)) refl
    (chosen fs fs2 (nat_eq (length a.operands) (length ps)) true (body []) (refuse WrongCount n.at n.site) w w2 left
    left step
    (eq-eqb _ _ (sym c.len-given.ensures ∙ c.if-given-wanted.false ∙ c.len-wanted.ensures))
    (moved fs fs2 (body []) (body c.new.result) w w w2 left left step (ap body (sym c.new.ensures)) refl
    (g left))))
