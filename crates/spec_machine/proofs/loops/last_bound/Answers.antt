use Rattle.std.proofs.Common.{◌≡◌, refl, sym, ap, ◌∙◌, List, Option, Some, None, ◌++◌}
use Rattle.tl_base.specs.declared.ids.NodeId.{NodeId}
use Rattle.tl_base.specs.declared.machine.Step.TheVariants.{Enter}
use Rattle.tl_tree.specs.Arena.{items_of}
use Rattle.tl_tree.specs.Code.{if_any}
use Rattle.spec_model.specs.declared.job.Job.TheVariants as jobs
use Rattle.spec_model.specs.Plans.{SpecPlan}
use Rattle.spec_machine.specs.declared.frame.TermFrame.TheVariants as of_term
use Rattle.spec_machine.specs.Frames.{bounds_from}
use Rattle.spec_machine.proofs.Doing.{moved}
use Rattle.tl_base.proofs.Results.{carried}
use Rattle.spec_machine.proofs.Pushing.{term_enters}
use Rattle.spec_machine.proofs.loops.last_bound.Goals as goal

pub returns-in_ok-push-in-Some-clause-means : goal.returns-in_ok-push-in-Some-clause-means
returns-in_ok-push-in-Some-clause-means c =
    let a = c.args in
    let items = items_of a.tree.now in
    let w = a.world.now in
    let left = a.budget.now in
    let n = c.in-Some.bound in
    let by : Option NodeId → SpecPlan = λ o. bounds_from items a.frame (if_any o) a.terms in
    moved items a.frames.now.items c.push.new.self.items (by a.step) (by (Some n)) w w w left left
    (Enter (jobs.Expression n a.frame.env)) (ap by c.in-Some.is) refl
    (term_enters items a.frames.now.items c.push.new.self.items (of_term.Bound None None a.terms a.frame) n a.frame.env w left
    c.in_ok-push-in-Some.ensures.items)

pub returns-in-None-clause-means : goal.returns-in-None-clause-means
returns-in-None-clause-means c =
    let a = c.args in
    let items = items_of a.tree.now in
    let w = a.world.now in
    let by : Option NodeId → SpecPlan = λ o. bounds_from items a.frame (if_any o) a.terms in
    carried _ _ c.for_body.result c.for_body.ensures.means (λ next g.
    moved items a.frames.now.items c.for_body.new.frames.items (by a.step) (by None) w w c.for_body.new.world
    a.budget.now c.for_body.new.budget next (ap by c.in-None.is) refl g)
