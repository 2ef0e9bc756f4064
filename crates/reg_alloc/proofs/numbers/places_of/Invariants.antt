use Rattle.reg_alloc.specs.Noted.{ArePlacesTo}
use Rattle.reg_alloc.proofs.numbers.places_of.Given as goal

abbrev pub invariant-loop-block : goal.invariant-loop-block
invariant-loop-block l = ArePlacesTo l.graph l.block-index l.begins.items l.exits.items l.count
