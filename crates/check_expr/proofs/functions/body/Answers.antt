use Rattle.std.proofs.Common.{ℕ, length, Option, Some, None, refl, sym, ap, ◌∙◌}
use Rattle.std.specs.Prelude.{slice_get}
use Rattle.tl_base.specs.declared.ids.TermId.{TermId}
use Rattle.terra_term.specs.declared.store.Function.{Function}
use Rattle.check_model.specs.declared.site.Site.{Site}
use Rattle.check_model.specs.Bodies as models
use Rattle.check_model.specs.Plans.{BodyPlan, then_on}
use Rattle.check_model.specs.Typing.{TypingState, function_at}
use Rattle.check_expr.specs.Functions.{parts_in, parts_plan}
use Rattle.check_expr.specs.Kept.{keeps_then}
use Rattle.check_expr.specs.Steps.{with_stage}
use Rattle.check_expr.specs.declared.functions.Definition.{Definition}
use Rattle.check_expr.proofs.Behind.{behind_function}
use Rattle.check_expr.proofs.Defining.{parts_mean}
use Rattle.check_expr.proofs.Doing.{moved}
use Rattle.tl_base.proofs.Results.{carried, on-ok}
use Rattle.check_expr.proofs.functions.body.Goals as goal

pub returns-in-None-clause-means : goal.returns-in-None-clause-means
returns-in-None-clause-means c =
    let a = c.args in
    let fs = a.frames.now.items in
    let w = a.typing.now in
    let left = a.budget.now in
    let plan : Option Function → BodyPlan = λ o. models.for_function w a.f o in
    moved fs fs (plan (function_at w.stage a.f)) (plan None) w w w left left c.refuse.result
    (ap plan (ap (λ (v : TypingState). function_at v.stage a.f) (sym c.typing.view_is) ∙ sym c.function_of.ensures
    ∙ c.in-None.is)) refl
    (c.refuse.ensures.means w left fs)

pub returns-in-None-term-clause-means : goal.returns-in-None-term-clause-means
returns-in-None-term-clause-means c =
    let a = c.args in
    let g = c.in-Some.function in
    let fs = a.frames.now.items in
    let w = a.typing.now in
    let left = a.budget.now in
    let plan : Option Function → BodyPlan = λ o. models.for_function w a.f o in
    let known : Option TermId → BodyPlan = λ o. models.function_plan w a.f g o in
    moved fs fs (plan (function_at w.stage a.f)) (known None) w w w left left c.refuse-in-None-term.result
    (ap plan (ap (λ (v : TypingState). function_at v.stage a.f) (sym c.typing.view_is) ∙ sym c.function_of.ensures
    ∙ c.in-Some.is)
    ∙ ap known (sym c.term.ensures ∙ c.in-None-term.is)) refl
    (c.refuse-in-None-term.ensures.means w left fs)

-- the function's frame waits for the end of its body, which is typed in the world where it has begun
pub returns-in_ok-push-in-Some-term-clause-means : goal.returns-in_ok-push-in-Some-term-clause-means
returns-in_ok-push-in-Some-term-clause-means c = carried _ _ c.defined.result c.defined.ensures.means (λ step it.
    let a = c.args in
    let g = c.in-Some.function in
    let t = c.in-Some-term.term in
    let fs = a.frames.now.items in
    let fs2 = c.defined.new.frames.items in
    let pushed = c.push.new.self.items in
    let w = a.typing.now in
    let v = with_stage w (models.begun_in w.stage a.f) in
    let w2 = c.defined.new.typing in
    let left = a.budget.now in
    let left2 = c.defined.new.budget in
    let n = c.count-base.result in
    let term = slice_get w.stage.store.terms t.0 in
    let plan : Option Function → BodyPlan = λ o. models.for_function w a.f o in
    let known : Option TermId → BodyPlan = λ o. models.function_plan w a.f g o in
    let site : ℕ → Site = λ base. record (models.site_of a.f w) { base = base } in
    let body : ℕ → BodyPlan = λ base. models.definition_plan term g.place (site base) in
    let behind : ℕ → BodyPlan = λ base. then_on (body base) (λ r. models.close_function a.f base r) in
    let parts : Option Definition → BodyPlan = λ d. parts_plan d g.place (site n) in
    let definition = c.in_ok-definition-in-Some-term.definition in
    moved fs fs2 (plan (function_at w.stage a.f)) (known (Some t)) w w w2 left left2 step
    (ap plan (ap (λ (u : TypingState). function_at u.stage a.f) (sym c.typing.view_is) ∙ sym c.function_of.ensures
    ∙ c.in-Some.is)
    ∙ ap known (sym c.term.ensures ∙ c.in-Some-term.is)) refl
    (moved fs fs2 (behind (length w.variables)) (behind n) v v w2 left left2 step (ap behind (sym c.count-base.ensures))
    refl
    (behind_function fs pushed fs2 a.f n (body n) v w2 left left2 step c.in_ok-push-in-Some-term.ensures.items
    (moved pushed fs2 (body n) (parts definition) v c.begin.new.typing w2 left left2 step
    (parts_mean term g.place (site n)
    ∙ ap parts (ap (λ (u : TypingState). parts_in (slice_get u.stage.store.terms t.0)) (sym c.typing.view_is)
    ∙ sym c.in_ok-definition-in-Some-term.ensures))
    (sym c.begin.ensures.means) it))))

pub returns-in_ok-push-in-Some-term-clause-kept : goal.returns-in_ok-push-in-Some-term-clause-kept
returns-in_ok-push-in-Some-term-clause-kept c = on-ok c.defined.result c.defined.ensures.kept (λ g.
    keeps_then c.args.typing.now c.begin.new.typing c.defined.new.typing c.begin.ensures.kept
    g)
