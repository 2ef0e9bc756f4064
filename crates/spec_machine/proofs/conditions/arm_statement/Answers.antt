use Rattle.std.proofs.Common.{◌≡◌, refl, sym, ap, ◌∙◌, List, Option}
use Rattle.tl_base.specs.declared.ids.TermId.{TermId}
use Rattle.terra_term.specs.declared.term.Statement.TheVariants as s
use Rattle.terra_term.specs.declared.term.Term.{Term}
use Rattle.terra_term.specs.declared.term.Term.TheVariants as terms
use Rattle.spec_model.specs.Making.{with_term}
use Rattle.spec_machine.proofs.Entering.{node_gets}
use Rattle.spec_machine.proofs.conditions.arm_statement.Goals as goal

pub returns-clause-means : goal.returns-clause-means
returns-clause-means c =
    let a = c.args in
    let arm = a.arm in
    let list = c.in_ok-statements.statements in
    let others = c.in_ok-otherwise.otherwise in
    let w = a.world.now in
    let by : List TermId → Option (List TermId) → Term = λ ts us. terms.Statement arm.place (s.If arm.test ts us) in
    node_gets w c.new_term.new.world (by arm.statements a.otherwise) c.in_ok-made.made c.in_ok-made.ensures.id
    (c.in_ok-made.ensures.ok
    ∙ ap (λ (ts : List TermId). with_term w (by ts others)) c.in_ok-statements.ensures
    ∙ ap (λ (us : Option (List TermId)). with_term w (by arm.statements us)) c.in_ok-otherwise.ensures)
