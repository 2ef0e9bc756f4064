use Rattle.std.proofs.Common.{refl, sym, ap, ◌∙◌}
use Rattle.tl_base.specs.declared.ids.TypeId.{TypeId}
use Rattle.check_model.specs.declared.question.BodyQuestion.TheVariants.{ResultOf}
use Rattle.tl_base.specs.declared.machine.Step.TheVariants.{Stop}
use Rattle.terra_term.specs.declared.refusal.RefusalKind.TheVariants.{RecursiveNeedsType}
use Rattle.check_model.specs.declared.known.KnownResult.{KnownResult}
use Rattle.check_model.specs.declared.known.KnownResult.TheVariants.{Is, NotYet}
use Rattle.check_model.specs.Calls as models
use Rattle.check_model.specs.Plans.{BodyPlan, refuse}
use Rattle.check_model.specs.Typing.{TypingState}
use Rattle.check_expr.specs.declared.frame.BodyFrame.TheVariants as frames
use Rattle.check_expr.specs.Frames.{operands_from}
use Rattle.check_expr.proofs.Doing.{moved, asks}
use Rattle.tl_base.proofs.Results.{carried}
use Rattle.check_expr.proofs.calls.by_result.Goals as goal

pub returns-in-Is-clause-means : goal.returns-in-Is-clause-means
returns-in-Is-clause-means c = carried _ _ c.operands_left.result c.operands_left.ensures.means (λ step g left.
    let a = c.args in
    let f = a.frame in
    let w = a.typing.now in
    let go : TypeId → BodyPlan = λ of. operands_from f f.fitting f.ids of in
    let plan : KnownResult → BodyPlan = λ k. models.by_result k a.f f.node.at f.node.site go in
    moved a.frames.now.items c.operands_left.new.frames.items (plan (models.result_of w.stage a.f))
    (plan (Is c.in-Is.of)) w w
    c.operands_left.new.typing left left step
    (ap plan (ap (λ (v : TypingState). models.result_of v.stage a.f) (sym c.typing.view_is) ∙ sym c.result_type.ensures
    ∙ c.in-Is.is)) refl
    (g left))

pub returns-in-BeingTyped-clause-means : goal.returns-in-BeingTyped-clause-means
returns-in-BeingTyped-clause-means c = λ left.
    let a = c.args in
    let f = a.frame in
    let fs = a.frames.now.items in
    let w = a.typing.now in
    let go : TypeId → BodyPlan = λ of. operands_from f f.fitting f.ids of in
    let plan : KnownResult → BodyPlan = λ k. models.by_result k a.f f.node.at f.node.site go in
    moved fs fs (plan (models.result_of w.stage a.f)) (refuse RecursiveNeedsType f.node.at f.node.site) w w w left left
    c.refuse.result
    (ap plan (ap (λ (v : TypingState). models.result_of v.stage a.f) (sym c.typing.view_is) ∙ sym c.result_type.ensures
    ∙ c.in-BeingTyped.is))
    refl (c.refuse.ensures.means w left fs)

pub returns-in_ok-push-in-NotYet-clause-means : goal.returns-in_ok-push-in-NotYet-clause-means
returns-in_ok-push-in-NotYet-clause-means c = λ left.
    let a = c.args in
    let f = a.frame in
    let fs = a.frames.now.items in
    let fs2 = c.push.new.self.items in
    let w = a.typing.now in
    let go : TypeId → BodyPlan = λ of. operands_from f f.fitting f.ids of in
    let plan : KnownResult → BodyPlan = λ k. models.by_result k a.f f.node.at f.node.site go in
    moved fs fs2 (plan (models.result_of w.stage a.f)) (plan NotYet) w w w left left (Stop (ResultOf a.f))
    (ap plan (ap (λ (v : TypingState). models.result_of v.stage a.f) (sym c.typing.view_is) ∙ sym c.result_type.ensures
    ∙ c.in-NotYet.is)) refl
    (asks fs fs2 (frames.Result a.f f) (ResultOf a.f) w left c.in_ok-push-in-NotYet.ensures.items)
