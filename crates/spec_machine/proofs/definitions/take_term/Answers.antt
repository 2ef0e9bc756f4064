use Rattle.std.proofs.Common.{◌-◌, List, refl, sym, ap, ◌∙◌}
use Rattle.tl_base.specs.declared.ids.TermId.{TermId}
use Rattle.tl_base.specs.declared.machine.Step.TheVariants.{Return}
use Rattle.tl_base.specs.Plan.{Give, Read, Write}
use Rattle.terra_term.specs.declared.term.Term.TheVariants as terms
use Rattle.terra_term.specs.declared.lists.Parameter.{Parameter}
use Rattle.spec_model.specs.declared.end.End.TheVariants as ends
use Rattle.spec_model.specs.Making as making
use Rattle.spec_model.specs.Plans as plans
use Rattle.spec_model.specs.Plans.{SpecPlan}
use Rattle.spec_model.specs.Definitions as definitions
use Rattle.spec_machine.specs.Kept.{keeps_then}
use Rattle.spec_machine.specs.Frames as waiting
use Rattle.spec_machine.specs.Steps.{SpecStep}
use Rattle.spec_machine.proofs.Doing.{returns as returned, moved, gets}
use Rattle.spec_machine.proofs.Made.{node_got}
use Rattle.spec_machine.proofs.definitions.take_term.Goals as goal

pub returns-clause-means : goal.returns-clause-means
returns-clause-means c = λ items left fs.
    let a = c.args in
    let w = a.world.now in
    let d = a.definition.now in
    let f = d.function in
    let term : List Parameter → List TermId → _ = λ ps ts. terms.Function ps a.of ts in
    let t = c.in_ok-term.term in
    let made = term c.in_ok-parameters.parameters c.in_ok-body.body in
    let go : TermId → SpecPlan = λ x. Read (λ v. Write (making.with_defined v f d.place x) (waiting.defined d)) in
    let end : SpecStep = Return (ends.Gave c.defined.result) in
    moved items fs fs (plans.node (term (definitions.parameter_list a.drawn) a.body) go) (plans.node made go) w w c.define_term.new.world left left end
    (ap (λ (ps : List Parameter). plans.node (term ps a.body) go) (sym (c.in_ok-parameters.ensures ∙ ap definitions.parameter_list c.as_slice.ensures))
    ∙ ap (λ (ts : List TermId). plans.node (term c.in_ok-parameters.parameters ts) go) (sym c.in_ok-body.ensures)) refl
    (gets {X = TermId} items fs fs (λ k. plans.node made k) go t w c.new_term.new.world c.define_term.new.world left left end
    (node_got made w c.new_term.new.world t c.in_ok-term.ensures.id c.in_ok-term.ensures.ok)
    (moved items fs fs (waiting.defined d) (Give (ends.Gave c.defined.result)) (making.with_defined c.new_term.new.world f d.place t)
    c.define_term.new.world c.define_term.new.world left left end c.defined.ensures (sym c.in_ok-define_term.ensures.ok)
    (returned items fs (ends.Gave c.defined.result) c.define_term.new.world left)))

pub returns-clause-kept : goal.returns-clause-kept
returns-clause-kept c =
    keeps_then c.args.world.now c.new_term.new.world c.define_term.new.world c.in_ok-term.ensures.kept c.in_ok-define_term.ensures.kept
