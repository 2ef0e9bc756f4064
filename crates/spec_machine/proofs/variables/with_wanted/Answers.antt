use Rattle.std.proofs.Common.{◌≡◌, refl, sym, ap, ◌∙◌, List, ◌++◌}
use Rattle.tl_base.specs.declared.ids.NodeId.{NodeId}
use Rattle.tl_base.specs.declared.place.Place.{Place}
use Rattle.tl_tree.specs.Arena.{items_of}
use Rattle.tl_tree.specs.Code.{place_at}
use Rattle.spec_model.specs.declared.wanted.Wanted.{Wanted}
use Rattle.spec_model.specs.Nodes.{typing_at}
use Rattle.spec_machine.specs.Variables.{wanted_at}
use Rattle.spec_machine.proofs.Varying.{wanted_is}
use Rattle.spec_machine.proofs.variables.with_wanted.Goals as goal

pub returns-clause-wanted : goal.returns-clause-wanted
returns-clause-wanted c =
    let a = c.args in
    let items = items_of a.tree.now in
    let at : c.place-at.result ≡ place_at items (typing_at items a.node).name =
    c.place-at.ensures ∙ ap (λ (n : NodeId). place_at items n) c.typing_at.ensures.name in
    c.in_ok-wanted.ensures
    ∙ ap (λ (p : Place). a.frame.wanted ++ wanted_at a.symbols a.of p) at
    ∙ ap (λ (ws : List Wanted). a.frame.wanted ++ ws) (sym (wanted_is items a.node a.symbols a.of))
