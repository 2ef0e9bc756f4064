use Rattle.std.proofs.Common.{false, List, [], ◌∷◌, refl, sym, ap, ◌∙◌}
use Rattle.std.specs.Prelude.{codes}
use Rattle.tl_base.specs.declared.ids.TermId.{TermId}
use Rattle.lua_value.specs.declared.value.Value.{Value}
use Rattle.lua_value.specs.declared.value.Value.TheVariants as values
use Rattle.lua_value.specs.Values.{is_nil}
use Rattle.terra_term.specs.declared.refusal.RefusalKind.TheVariants.{NoMethod}
use Rattle.check_model.specs.declared.job.Operand.{Operand}
use Rattle.check_model.specs.Expressions as models
use Rattle.check_model.specs.Plans.{BodyPlan, refuse, untyped, quoting, quotes_of, calling, in_place, give}
use Rattle.check_model.specs.Structs.{metamethod}
use Rattle.check_model.specs.Typing.{TypingState}
use Rattle.check_expr.proofs.Answering.{quotes_then}
use Rattle.check_expr.proofs.Doing.{moved, chosen}
use Rattle.tl_base.proofs.Results.{carried}
use Rattle.check_expr.proofs.methods.missing.Goals as goal

pub returns-clause-means : goal.returns-clause-means
returns-clause-means c = carried _ _ c.quotes_left.result c.quotes_left.ensures.means (λ step g left.
    let a = c.args in
    let n = a.node in
    let fs = a.frames.now.items in
    let fs2 = c.quotes_left.new.frames.items in
    let w = a.typing.now in
    let w2 = c.new_quote.new.typing in
    let h = c.metamethod-handler.result in
    let q = c.in_ok-object.object in
    let os = c.from_vec.result in
    let plan : Value → BodyPlan = λ x. models.missing_method x a.object a.name a.arguments n.at n.site in
    let behind : List Operand → List Value → BodyPlan = λ xs vs.
    quotes_of xs n.site vs (λ given. calling h given n.at n.site (λ v. in_place v n.at n.site give)) in
    let go : Value → BodyPlan = λ x. behind (untyped a.arguments) (values.Text a.name ∷ x ∷ []) in
    let two : List Value = values.Text a.name ∷ q ∷ [] in
    moved fs fs2 (plan (metamethod w.stage a.of (codes "__methodmissing"))) (plan h) w w w2 left left step
    (ap plan (ap (λ (v : TypingState). metamethod v.stage a.of (codes "__methodmissing")) (sym c.typing.view_is)
    ∙ sym c.metamethod-handler.ensures)) refl
    (chosen fs fs2 (is_nil h) false (refuse NoMethod n.at n.site) (quoting a.object go) w w2 left left step
    (sym c.is_nil.ensures.value ∙ c.if-is_nil.false)
    (quotes_then fs fs2 a.object go q w w2 w2 left left step c.in_ok-object.ensures.value c.in_ok-object.ensures.ok
    (moved fs fs2 (go q) (behind os c.in_ok-two_values.field-0) w2 w2 w2 left left step
    (ap (λ (ts : List TermId). behind (untyped ts) two) (sym c.as_slice.ensures)
    ∙ ap (λ (xs : List Operand). behind xs two) (sym c.in_ok-operands.ensures ∙ sym c.from_vec.ensures)
    ∙ ap (behind os) (sym c.in_ok-two_values.ensures)) refl
    (g w2 left)))))
