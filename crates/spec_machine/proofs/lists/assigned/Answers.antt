use Rattle.std.proofs.Common.{refl, sym, ap, ◌∙◌, List, [], ◌∷◌}
use Rattle.tl_base.specs.declared.ids.NodeId.{NodeId}
use Rattle.tl_base.specs.declared.ids.TermId.{TermId}
use Rattle.tl_base.specs.declared.machine.Step.TheVariants.{Enter}
use Rattle.terra_term.specs.declared.term.Statement.TheVariants as s
use Rattle.spec_model.specs.declared.job.Job.TheVariants as jobs
use Rattle.spec_model.specs.Plans.{SpecPlan, terms_of, join}
use Rattle.spec_machine.specs.declared.frame.TermsThen.TheVariants as of_terms
use Rattle.spec_machine.proofs.Doing.{moved}
use Rattle.tl_base.proofs.Results.{carried}
use Rattle.spec_machine.proofs.Entering.{does_as}
use Rattle.spec_machine.proofs.Pushing.{none_is, list_enters}
use Rattle.spec_machine.proofs.lists.assigned.Goals as goal

pub returns-in-None-clause-means : goal.returns-in-None-clause-means
returns-in-None-clause-means c =
    let a = c.args in
    let none = c.new-none.result in
    let go : List TermId → SpecPlan = λ us. join a.place (s.Assign a.targets us) in
    carried _ _ c.assign.result c.assign.ensures.means (λ step g items left.
    does_as items a.frames.now.items (terms_of a.values.now a.env [] go) (go none) a.world.now c.assign.new.world left left step
    (ap (λ (ns : List NodeId). terms_of ns a.env [] go) (none_is a.values.now c.in-None.ensures.cases) ∙ ap go (sym c.new-none.ensures))
    (g items left))

pub returns-in_ok-push-in-Some-clause-means : goal.returns-in_ok-push-in-Some-clause-means
returns-in_ok-push-in-Some-clause-means c = λ items left.
    let a = c.args in
    let none = c.new-none.result in
    let go : List TermId → SpecPlan = λ us. join a.place (s.Assign a.targets us) in
    moved items a.frames.now.items c.push.new.self.items (terms_of a.values.now a.env [] go) (terms_of a.values.now a.env none go)
    a.world.now a.world.now a.world.now left left (Enter (jobs.Expression c.in-Some.first.now a.env))
    (ap (λ (ts : List TermId). terms_of a.values.now a.env ts go) (sym c.new-none.ensures)) refl
    (list_enters items a.frames.now.items c.push.new.self.items a.values.now c.in-Some.first.now
    (record { rest = c.in-Some.rest; env = a.env; terms = none; then = of_terms.Assign a.targets a.place }) a.world.now left
    c.in-Some.ensures.cases.0 c.in_ok-push-in-Some.ensures.items)
