use Rattle.std.proofs.Common.{arith, subst}
use Rattle.tl_tree.specs.Arena.{items_of}
use Rattle.spec_sound.specs.Places.{IsSmallItem}
use Rattle.spec_sound.proofs.Small.{one-more, all-placed}
use Rattle.spec_sound.proofs.places.places_fit.Goals as goal

pub nodes-init : goal.nodes-init
nodes-init c = record { small = λ i h. absurd (omega (arith, h)) }

pub nodes-preserved : goal.nodes-preserved
nodes-preserved c = record {
  small = one-more (items_of c.args.tree.now) c.nodes.number c.nodes.invariant.small
      (subst IsSmallItem c.node.ensures c.node_fits.ensures);
}

pub returns : goal.returns
returns c =
    let reached = c.nodes-test.false in
    all-placed (items_of c.args.tree.now) c.root-root.result c.root-root.ensures
    (λ i h. c.nodes.invariant.small i (omega (arith, h, reached)))
    (subst IsSmallItem c.node-2.ensures c.node_fits-2.ensures)
