use Rattle.spec_machine.specs.Kept.{keeps_then}
use Rattle.spec_machine.specs.declared.reached.Reached.TheVariants.{Value as Came, Left}
use Rattle.std.proofs.Common.{List}
use Rattle.tl_base.specs.declared.ids.TermId.{TermId}
use Rattle.spec_model.specs.Plans.{SpecPlan, one}
use Rattle.spec_machine.proofs.Reaching.{came_as}
use Rattle.spec_machine.proofs.Spliced.{performed_comes, performed_left}
use Rattle.spec_machine.proofs.splices.performed.Goals as goal

pub returns-in_ok-push-in-Value-clause-means : goal.returns-in_ok-push-in-Value-clause-means
returns-in_ok-push-in-Value-clause-means c =
    let a = c.args in
    let w = a.world.now in
    let v = c.one.new.world in
    let left = a.budget.now in
    let after = c.one.new.budget in
    let t = c.in-Value.term in
    performed_comes a.value a.at a.terms c.push.new.self t c.in_ok-made-in-Value.made w v c.new_term.new.world left after
    (came_as (λ (go : TermId → SpecPlan). one a.value a.at go) c.in_ok-reached.reached (Came t) w v left after
    c.in-Value.is c.in_ok-reached.ensures.means)
    c.in_ok-made-in-Value.ensures.id c.in_ok-made-in-Value.ensures.ok c.in_ok-push-in-Value.ensures.ok

pub returns-in_ok-push-in-Value-clause-kept : goal.returns-in_ok-push-in-Value-clause-kept
returns-in_ok-push-in-Value-clause-kept c =
    keeps_then c.args.world.now c.one.new.world c.new_term.new.world c.in_ok-reached.ensures.kept c.in_ok-made-in-Value.ensures.kept

pub returns-in-Left-clause-means : goal.returns-in-Left-clause-means
returns-in-Left-clause-means c =
    let a = c.args in
    let w = a.world.now in
    let v = c.one.new.world in
    let left = a.budget.now in
    let after = c.one.new.budget in
    let step = c.in-Left.step in
    performed_left a.value a.at a.terms step w v left after
    (came_as (λ (go : TermId → SpecPlan). one a.value a.at go) c.in_ok-reached.reached (Left step) w v left after
    c.in-Left.is c.in_ok-reached.ensures.means)
