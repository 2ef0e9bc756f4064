use Rattle.tl_tree.specs.Arena.{items_of}
use Rattle.spec_sound.proofs.Small.{AreSmallBelow}
use Rattle.spec_sound.proofs.places.places_fit.Given as goal

abbrev pub invariant-nodes : goal.invariant-nodes
invariant-nodes l = record { small : AreSmallBelow (items_of l.tree) l.number }
