use Rattle.std.proofs.Common.{refl, sym, ap, ◌∙◌, arith}
use Rattle.tl_base.specs.declared.ids.TypeId.{TypeId}
use Rattle.tl_base.specs.declared.place.Place.{Place}
use Rattle.tl_base.specs.declared.machine.Step.TheVariants.{Spent}
use Rattle.terra_types.specs.Opening.{uint64}
use Rattle.terra_term.specs.declared.operators.Constant.TheVariants as constants
use Rattle.terra_term.specs.declared.refusal.RefusalKind.TheVariants.{BadOperand}
use Rattle.terra_term.specs.declared.typed.TypedExpression.TheVariants as te
use Rattle.check_model.specs.Calls as models
use Rattle.check_model.specs.Plans.{BodyPlan, refuse, gives, laid_out, reading}
use Rattle.check_model.specs.Typing.{TypingState, expression_at, place_of, bytes_in}
use Rattle.check_expr.specs.Callees.{callee_in}
use Rattle.check_expr.proofs.Calling.{size_type, size_other}
use Rattle.check_expr.proofs.Doing.{moved, does_as, pays, unpaid}
use Rattle.tl_base.proofs.Results.{carried}
use Rattle.check_expr.proofs.calls.size_of_term.Goals as goal

pub returns-then-not-pay-clause-means : goal.returns-then-not-pay-clause-means
returns-then-not-pay-clause-means c =
    let a = c.args in
    let n = a.node in
    let fs = a.frames.now.items in
    let w = a.typing.now in
    let left = a.budget.now in
    let t = c.in-Type.of in
    let x = expression_at w.stage a.term in
    let named = place_of w.stage a.term in
    let laid : BodyPlan =
    laid_out t n.at n.site (reading (λ v. gives n.source n.at uint64 (te.Constant (constants.Number (bytes_in v t)))))
    in
    moved fs fs (models.size_of_type x named n.at n.source n.site) (models.size_constant t n.at n.source n.site) w w w
    left c.pay.new.self Spent
    (size_type x t named n.at n.source n.site
    (ap (λ (v : TypingState). callee_in (expression_at v.stage a.term)) (sym c.typing.view_is) ∙ sym
    c.callee_of.ensures ∙ c.in-Type.is)) refl
    (unpaid fs 1 laid w left c.pay.new.self c.if-not-pay.ensures.short c.if-not-pay.ensures.refused)

pub returns-else-not-pay-clause-means : goal.returns-else-not-pay-clause-means
returns-else-not-pay-clause-means c = carried _ _ c.lay_out.result c.lay_out.ensures.means (λ step g.
    let a = c.args in
    let n = a.node in
    let fs = a.frames.now.items in
    let fs2 = c.lay_out.new.frames.items in
    let w = a.typing.now in
    let left = a.budget.now in
    let after = c.pay.new.self in
    let t = c.in-Type.of in
    let x = expression_at w.stage a.term in
    let named = place_of w.stage a.term in
    let laid : BodyPlan =
    laid_out t n.at n.site (reading (λ v. gives n.source n.at uint64 (te.Constant (constants.Number (bytes_in v t)))))
    in
    moved fs fs2 (models.size_of_type x named n.at n.source n.site) (models.size_constant t n.at n.source n.site) w w w
    left after step
    (size_type x t named n.at n.source n.site
    (ap (λ (v : TypingState). callee_in (expression_at v.stage a.term)) (sym c.typing.view_is) ∙ sym
    c.callee_of.ensures ∙ c.in-Type.is)) refl
    (pays fs fs2 1 laid w w left after after step (grind (arith, c.if-not-pay.ensures.enough)) c.if-not-pay.ensures.paid
    (g after)))

pub returns-in_default-clause-means : goal.returns-in_default-clause-means
returns-in_default-clause-means c =
    let a = c.args in
    let n = a.node in
    let fs = a.frames.now.items in
    let w = a.typing.now in
    let left = a.budget.now in
    let x = expression_at w.stage a.term in
    let place : Place → BodyPlan = λ at. refuse BadOperand at n.site in
    let same = ap (λ (v : TypingState). callee_in (expression_at v.stage a.term)) (sym c.typing.view_is) ∙ sym
    c.callee_of.ensures in
    does_as fs (models.size_of_type x (place_of w.stage a.term) n.at n.source n.site) (place c.place_of-named.result) w
    w left left c.refuse.result
    (size_other x (place_of w.stage a.term) n.at n.source n.site
    (λ (t : TypeId) is. c.in_default.not-Type t (sym same ∙ is))
    ∙ ap place (ap (λ (v : TypingState). place_of v.stage a.term) (sym c.typing.view_is) ∙ sym
    c.place_of-named.ensures))
    (c.refuse.ensures.means w left)
