use Rattle.check_expr.specs.declared.frame.MadeFrame.TheVariants as of_made
use Rattle.check_expr.proofs.Answering.{behind_place}
use Rattle.tl_base.proofs.Results.{carried}
use Rattle.check_expr.proofs.asking.with_value.Goals as goal

pub returns-in-InPlace-clause-means : goal.returns-in-InPlace-clause-means
returns-in-InPlace-clause-means c = carried _ _ c.in_place.result c.in_place.ensures.means (λ step g.
    rw c.in-InPlace.is (g c.args.frames.now.items))

pub returns-in_ok-push-in-Cast-clause-means : goal.returns-in_ok-push-in-Cast-clause-means
returns-in_ok-push-in-Cast-clause-means c = carried _ _ c.in_place-in-Cast.result c.in_place-in-Cast.ensures.means (λ step g.
    let a = c.args in
    let m = c.in-Cast in
    rw m.is (behind_place a.frames.now.items c.push.new.self.items c.push.new.self.items (of_made.OfType m.to m.at m.site) a.value m.at
    m.site a.typing.now c.in_place-in-Cast.new.typing a.budget.now c.in_place-in-Cast.new.budget step
    c.in_ok-push-in-Cast.ensures.items (g c.push.new.self.items)))

pub returns-in-Method-clause-means : goal.returns-in-Method-clause-means
returns-in-Method-clause-means c = carried _ _ c.given_method.result c.given_method.ensures.means (λ step g. rw c.in-Method.is g)
