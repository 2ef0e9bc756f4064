use Rattle.std.proofs.Common.{true, false, List, [], ◌∷◌, ◌++◌, refl, sym, ap, ◌∙◌}
use Rattle.terra_term.specs.WellTyped.{integer_form}
use Rattle.terra_term.specs.declared.refusal.RefusalKind.TheVariants.{BadOperand}
use Rattle.check_model.specs.declared.made.Made.{Made}
use Rattle.check_model.specs.Plans.{BodyPlan, refuse}
use Rattle.check_model.specs.Typing.{TypingState, form_in}
use Rattle.check_expr.specs.Frames as waiting
use Rattle.check_expr.proofs.Doing.{moved, chosen}
use Rattle.tl_base.proofs.Results.{carried}
use Rattle.check_expr.proofs.loops.bound.Goals as goal

pub returns-in_ok-push-clause-means : goal.returns-in_ok-push-clause-means
returns-in_ok-push-clause-means c = carried _ _ c.bounds_left.result c.bounds_left.ensures.means (λ step g left.
    let a = c.args in
    let f = a.frame in
    let m = a.made in
    let fs = a.frames.now.items in
    let fs2 = c.bounds_left.new.frames.items in
    let w = a.typing.now in
    let w2 = c.bounds_left.new.typing in
    let plan : List Made → BodyPlan = λ ms. waiting.bounds_from f ms in
    chosen fs fs2 (integer_form (form_in w.stage m.of)) true (plan (f.made ++ m ∷ [])) (refuse BadOperand m.at f.site)
    w w2 left left step
    (ap (λ (v : TypingState). integer_form (form_in v.stage m.of)) (sym c.typing.view_is) ∙ sym c.is_integer.ensures
    ∙ c.if-is_integer.true)
    (moved fs fs2 (plan (f.made ++ m ∷ [])) (plan c.push.new.self) w w w2 left left step
    (ap plan (sym c.in_ok-push.ensures.ok)) refl
    (g left)))

pub returns-else-is_integer-clause-means : goal.returns-else-is_integer-clause-means
returns-else-is_integer-clause-means c = λ left.
    let a = c.args in
    let f = a.frame in
    let m = a.made in
    let fs = a.frames.now.items in
    let w = a.typing.now in
    chosen fs fs (integer_form (form_in w.stage m.of)) false (waiting.bounds_from f (f.made ++ m ∷ []))
    (refuse BadOperand m.at f.site) w w
    left left c.refuse.result
    (ap (λ (v : TypingState). integer_form (form_in v.stage m.of)) (sym c.typing.view_is) ∙ sym c.is_integer.ensures
    ∙
    c.if-is_integer.false)
    (c.refuse.ensures.means w left fs)
