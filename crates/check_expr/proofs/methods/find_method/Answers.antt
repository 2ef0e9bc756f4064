use Rattle.std.proofs.Common.{Bool, true, false, refl, sym, ap, ◌∙◌}
use Rattle.std.specs.Prelude.{codes, if◌then◌else◌}
use Rattle.lua_value.specs.declared.value.Value.{Value}
use Rattle.lua_value.specs.Values.{is_nil}
use Rattle.exotype.specs.declared.property.Known.TheVariants as known
use Rattle.check_model.specs.Expressions as models
use Rattle.check_model.specs.Plans.{BodyPlan}
use Rattle.check_model.specs.Structs.{metamethod, method_at}
use Rattle.check_model.specs.Typing.{TypingState}
use Rattle.check_expr.specs.Asking.{with_method}
use Rattle.check_expr.specs.Steps.{with_stage}
use Rattle.check_expr.proofs.Doing.{moved}
use Rattle.tl_base.proofs.Results.{carried}
use Rattle.check_expr.proofs.methods.find_method.Goals as goal

-- the method that stands in the struct's methods
pub returns-then-is_nil-clause-means : goal.returns-then-is_nil-clause-means
returns-then-is_nil-clause-means c = carried _ _ c.given_method.result c.given_method.ensures.means (λ step g.
    let a = c.args in
    let n = a.node in
    let fs = a.frames.now.items in
    let fs2 = c.given_method.new.frames.items in
    let w = a.typing.now in
    let w2 = c.begin_method.new.typing in
    let w3 = c.given_method.new.typing in
    let left = a.budget.now in
    let left2 = c.given_method.new.budget in
    let h = c.metamethod-handler.result in
    let v = c.method-own.result in
    let go : Value → BodyPlan = λ x. models.call_method x a.of a.object a.name a.arguments n.at n.source n.site in
    let found : Bool → Value → Value → BodyPlan = λ b x y.
    if b then models.settling a.of a.name (known.Value y) (go y) else models.asked_method x a.of a.name n.at n.site go in
    let plan : Value → Value → BodyPlan = λ x y. models.keeping a.of a.name known.Asked (found (is_nil x) x y) in
    moved fs fs2 (plan (metamethod w.stage a.of (codes "__getmethod")) (method_at w.stage a.of a.name)) (plan h v) w w w3 left left2 step
    (ap (λ (x : Value). plan x (method_at w.stage a.of a.name)) (ap (λ (u : TypingState). metamethod u.stage a.of (codes "__getmethod"))
    (sym c.typing.view_is) ∙ sym c.metamethod-handler.ensures)
    ∙ ap (plan h) (ap (λ (u : TypingState). method_at u.stage a.of a.name) (sym c.typing.view_is) ∙ sym c.method-own.ensures)) refl
    (moved fs fs2 (found (is_nil h) h v) (found true h v) (with_stage w (with_method w.stage a.of a.name known.Asked)) w2 w3 left left2 step
    (ap (λ (b : Bool). found b h v) (sym c.is_nil.ensures.value ∙ c.if-is_nil.true)) (sym c.in_ok-begin_method.ensures.ok)
    g))

pub returns-else-is_nil-clause-means : goal.returns-else-is_nil-clause-means
returns-else-is_nil-clause-means c = carried _ _ c.ask_method.result c.ask_method.ensures.means (λ step g.
    let a = c.args in
    let n = a.node in
    let fs = a.frames.now.items in
    let fs2 = c.ask_method.new.frames.items in
    let w = a.typing.now in
    let w2 = c.begin_method.new.typing in
    let left = a.budget.now in
    let h = c.metamethod-handler.result in
    let v = c.method-own.result in
    let go : Value → BodyPlan = λ x. models.call_method x a.of a.object a.name a.arguments n.at n.source n.site in
    let found : Bool → Value → Value → BodyPlan = λ b x y.
    if b then models.settling a.of a.name (known.Value y) (go y) else models.asked_method x a.of a.name n.at n.site go in
    let plan : Value → Value → BodyPlan = λ x y. models.keeping a.of a.name known.Asked (found (is_nil x) x y) in
    moved fs fs2 (plan (metamethod w.stage a.of (codes "__getmethod")) (method_at w.stage a.of a.name)) (plan h v) w w w2 left left step
    (ap (λ (x : Value). plan x (method_at w.stage a.of a.name)) (ap (λ (u : TypingState). metamethod u.stage a.of (codes "__getmethod"))
    (sym c.typing.view_is) ∙ sym c.metamethod-handler.ensures)
    ∙ ap (plan h) (ap (λ (u : TypingState). method_at u.stage a.of a.name) (sym c.typing.view_is) ∙ sym c.method-own.ensures)) refl
    (moved fs fs2 (found (is_nil h) h v) (found false h v) (with_stage w (with_method w.stage a.of a.name known.Asked)) w2 w2 left left step
    (ap (λ (b : Bool). found b h v) (sym c.is_nil.ensures.value ∙ c.if-is_nil.false)) (sym c.in_ok-begin_method.ensures.ok)
    (g w2 left)))
