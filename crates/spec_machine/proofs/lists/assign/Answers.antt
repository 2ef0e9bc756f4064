use Rattle.std.proofs.Common.{sym, ap, ◌∙◌, List}
use Rattle.tl_base.specs.declared.ids.TermId.{TermId}
use Rattle.terra_term.specs.declared.term.Statement.TheVariants as s
use Rattle.spec_model.specs.Plans.{join}
use Rattle.tl_base.proofs.Results.{carried}
use Rattle.spec_machine.proofs.Entering.{does_as}
use Rattle.spec_machine.proofs.lists.assign.Goals as goal

pub returns-clause-means : goal.returns-clause-means
returns-clause-means c =
    let a = c.args in
    let targets = c.in_ok-targets.targets in
    let values = c.in_ok-values.values in
    carried _ _ c.join.result c.join.ensures.means (λ step g items left fs.
    does_as items fs (join a.place (s.Assign a.targets a.values)) (join a.place (s.Assign targets values)) a.world.now c.join.new.world
    left left step
    (ap (λ (ts : List TermId). join a.place (s.Assign ts a.values)) (sym c.in_ok-targets.ensures)
    ∙ ap (λ (us : List TermId). join a.place (s.Assign targets us)) (sym c.in_ok-values.ensures))
    (g items left))
