use Rattle.std.proofs.Common.{List, [], ◌∷◌, ◌++◌, refl, sym, ap}
use Rattle.lua_value.specs.declared.value.Value.{Value}
use Rattle.check_model.specs.Plans.{BodyPlan}
use Rattle.check_expr.specs.Frames.{quotes_from}
use Rattle.check_expr.proofs.Answering.{quotes_then}
use Rattle.check_expr.proofs.Doing.{moved}
use Rattle.tl_base.proofs.Results.{carried}
use Rattle.check_expr.proofs.asking.quoted.Goals as goal

pub returns-clause-means : goal.returns-clause-means
returns-clause-means c = carried _ _ c.quotes_left.result c.quotes_left.ensures.means (λ step g left.
    let a = c.args in
    let f = a.frame in
    let fs = a.frames.now.items in
    let fs2 = c.quotes_left.new.frames.items in
    let v = c.new_quote.new.typing in
    let q = c.in_ok-value.value in
    let plan : List Value → BodyPlan = λ vs. quotes_from f vs in
    quotes_then fs fs2 a.made (λ x. plan (f.values ++ x ∷ [])) q a.typing.now v v left left step
    c.in_ok-value.ensures.value c.in_ok-value.ensures.ok
    (moved fs fs2 (plan (f.values ++ q ∷ [])) (plan c.push.new.self) v v v left left step
    (ap plan (sym c.in_ok-push.ensures.ok)) refl (g v left)))
