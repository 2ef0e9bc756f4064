use Rattle.std.proofs.Common.{◌≡◌, refl, sym, ap, ◌∙◌, List, [], ◌∷◌, Some, None}
use Rattle.tl_base.specs.declared.ids.NodeId.{NodeId}
use Rattle.tl_base.specs.declared.ids.TermId.{TermId}
use Rattle.tl_base.specs.declared.machine.Step.TheVariants.{Enter}
use Rattle.terra_term.specs.declared.term.Statement.TheVariants as s
use Rattle.spec_model.specs.declared.job.Job.TheVariants as jobs
use Rattle.spec_model.specs.Plans.{SpecPlan, terms_of, join}
use Rattle.spec_model.specs.Statements.{drawn, values_if_any}
use Rattle.spec_machine.specs.declared.frame.TermsThen.TheVariants as of_terms
use Rattle.spec_machine.specs.Frames.{wanted_from}
use Rattle.spec_machine.proofs.Doing.{moved}
use Rattle.tl_base.proofs.Results.{carried}
use Rattle.spec_machine.proofs.Entering.{does_as}
use Rattle.spec_machine.proofs.Pushing.{none_is, list_enters}
use Rattle.spec_machine.proofs.variables.values.Goals as goal

pub returns-in-None-clause-means : goal.returns-in-None-clause-means
returns-in-None-clause-means c =
    let a = c.args in
    let f = a.frame in
    carried _ _ c.declared.result c.declared.ensures.means (λ step g items left.
    does_as items a.frames.now.items (wanted_from items f [] f.wanted)
    (drawn f.wanted f.env [] (λ names. join f.place (s.Var names None))) a.world.now c.declared.new.world left left step
    (ap (λ (ns : List NodeId). values_if_any ns f.env (λ vs. drawn f.wanted f.env [] (λ names. join f.place (s.Var names vs))))
    (none_is f.values.now c.in-None.ensures.cases)) (g items left))

pub returns-in_ok-push-in-Some-clause-means : goal.returns-in_ok-push-in-Some-clause-means
returns-in_ok-push-in-Some-clause-means c = λ items left.
    let a = c.args in
    let f = a.frame in
    let n = c.in-Some.first.now in
    let rest = c.in-Some.rest in
    let none = c.new.result in
    let go : List TermId → SpecPlan = λ ts. drawn f.wanted f.env [] (λ names. join f.place (s.Var names (Some ts))) in
    moved items a.frames.now.items c.push.new.self.items (wanted_from items f [] f.wanted) (terms_of (n ∷ rest.now) f.env none go)
    a.world.now a.world.now a.world.now left left (Enter (jobs.Expression n f.env))
    (ap (λ (ns : List NodeId). values_if_any ns f.env (λ vs. drawn f.wanted f.env [] (λ names. join f.place (s.Var names vs))))
    c.in-Some.ensures.cases.0
    ∙ ap (λ (ts : List TermId). terms_of (n ∷ rest.now) f.env ts go) (sym c.new.ensures)) refl
    (list_enters items a.frames.now.items c.push.new.self.items (n ∷ rest.now) n
    (record { rest = rest; env = f.env; terms = none; then = of_terms.Var f.wanted f.place }) a.world.now left
    refl c.in_ok-push-in-Some.ensures.items)
