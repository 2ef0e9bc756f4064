use Rattle.std.proofs.Common.{◌≡◌, sym, ap, ◌∙◌, List, None}
use Rattle.tl_base.specs.declared.ids.TermId.{TermId}
use Rattle.terra_term.specs.declared.lists.VarName.{VarName}
use Rattle.terra_term.specs.declared.term.Statement.TheVariants as s
use Rattle.spec_model.specs.Plans.{SpecPlan, join}
use Rattle.tl_base.proofs.Results.{carried}
use Rattle.spec_machine.proofs.Entering.{does_as}
use Rattle.spec_machine.proofs.blocks.for_statement.Goals as goal

pub returns-clause-means : goal.returns-clause-means
returns-clause-means c =
    let a = c.args in
    let plain : VarName = record { symbol = a.symbol; of = None; place = a.at } in
    let name = c.in_ok-name.name in
    let bounds = c.in_ok-bounds.bounds in
    let list = c.in_ok-list.list in
    let by : VarName → List TermId → List TermId → SpecPlan = λ n bs ts. join a.place (s.For n bs ts) in
    carried _ _ c.join.result c.join.ensures.means (λ step g items left fs.
    does_as items fs (by plain a.bounds a.terms) (by name bounds list) a.world.now c.join.new.world left left step
    (ap (λ (n : VarName). by n a.bounds a.terms) (sym c.in_ok-name.ensures)
    ∙ ap (λ (bs : List TermId). by name bs a.terms) (sym c.in_ok-bounds.ensures)
    ∙ ap (λ (ts : List TermId). by name bounds ts) (sym c.in_ok-list.ensures))
    (g items left))
