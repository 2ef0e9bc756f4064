use Rattle.std.proofs.Common.{◌≡◌, drop}
use Rattle.rv_listing.specs.Reading.{first_named}
use Rattle.rv_listing.proofs.names.first_named.Given as goal

abbrev pub invariant-loop-operation : goal.invariant-loop-operation
invariant-loop-operation l = first_named (drop l.operation-index l.operations) l.name ≡ first_named l.operations l.name
