use Rattle.std.proofs.Common.{List, []}
use Rattle.tl_base.specs.declared.ids.TermId.{TermId}
use Rattle.spec_model.specs.Plans.{SpecPlan}
use Rattle.spec_model.specs.Statements.{each_spliced}
use Rattle.tl_base.proofs.Results.{carried}
use Rattle.spec_machine.proofs.Entering.{joins}
use Rattle.spec_machine.proofs.splices.splice_all.Goals as goal

pub returns-clause-means : goal.returns-clause-means
returns-clause-means c =
    let a = c.args in
    carried _ _ c.joined.result c.joined.ensures (λ step e items.
    joins items (λ (go : List TermId → SpecPlan). each_spliced a.values.now a.at [] go) c.in_ok-reached.reached step a.world.now
    c.each_spliced.new.world a.budget.now c.each_spliced.new.budget e c.in_ok-reached.ensures.means)
