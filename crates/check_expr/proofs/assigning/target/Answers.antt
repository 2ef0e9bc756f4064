use Rattle.std.proofs.Common.{true, false, List, [], ◌∷◌, ◌++◌, refl, sym, ap}
use Rattle.terra_term.specs.declared.refusal.RefusalKind.TheVariants.{NotPlace}
use Rattle.check_model.specs.declared.made.Made.{Made}
use Rattle.check_model.specs.Plans.{BodyPlan, refuse}
use Rattle.check_expr.specs.Frames as waiting
use Rattle.check_expr.proofs.Doing.{moved, chosen}
use Rattle.tl_base.proofs.Results.{carried}
use Rattle.check_expr.proofs.assigning.target.Goals as goal

pub returns-in_ok-push-clause-means : goal.returns-in_ok-push-clause-means
returns-in_ok-push-clause-means c = carried _ _ c.targets_left.result c.targets_left.ensures.means (λ step g left.
    let a = c.args in
    let f = a.frame in
    let m = a.made in
    let fs = a.frames.now.items in
    let fs2 = c.targets_left.new.frames.items in
    let w = a.typing.now in
    let w2 = c.targets_left.new.typing in
    let plan : List Made → BodyPlan = λ ps. waiting.targets_from f ps in
    chosen fs fs2 m.is_place true (plan (f.places ++ m ∷ [])) (refuse NotPlace m.at f.site) w w2 left left step c.if-made.true
    (moved fs fs2 (plan (f.places ++ m ∷ [])) (plan c.push.new.self) w w w2 left left step (ap plan (sym c.in_ok-push.ensures.ok)) refl
    (g left)))

pub returns-else-made-clause-means : goal.returns-else-made-clause-means
returns-else-made-clause-means c = λ left.
    let a = c.args in
    let f = a.frame in
    let m = a.made in
    let fs = a.frames.now.items in
    let w = a.typing.now in
    chosen fs fs m.is_place false (waiting.targets_from f (f.places ++ m ∷ [])) (refuse NotPlace m.at f.site) w w left left c.refuse.result
    c.if-made.false (c.refuse.ensures.means w left fs)
