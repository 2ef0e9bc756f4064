use Rattle.std.proofs.Common.{refl, sym, ap, ◌∙◌, subst, List, []}
use Rattle.tl_base.specs.declared.ids.TermId.{TermId}
use Rattle.spec_model.specs.Plans.{SpecPlan}
use Rattle.spec_model.specs.Statements.{spliced}
use Rattle.spec_machine.specs.Steps.{Comes}
use Rattle.tl_base.proofs.Results.{carried}
use Rattle.spec_machine.proofs.Entering.{joins}
use Rattle.spec_machine.proofs.splices.splice.Goals as goal

pub returns-clause-means : goal.returns-clause-means
returns-clause-means c =
    let a = c.args in
    let w = a.world.now in
    let v = c.spliced.new.world in
    let left = a.budget.now in
    let after = c.spliced.new.budget in
    let reached = c.in_ok-reached.reached in
    let came : Comes (λ (go : List TermId → SpecPlan). spliced a.value a.at [] go) w left reached v after =
    subst (λ (ts : List TermId). Comes (λ (go : List TermId → SpecPlan). spliced a.value a.at ts go) w left reached v after)
    c.new-none.ensures c.in_ok-reached.ensures.means in
    carried _ _ c.joined.result c.joined.ensures (λ step e items.
    joins items (λ (go : List TermId → SpecPlan). spliced a.value a.at [] go) reached step w v left after e came)
