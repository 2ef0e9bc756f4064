use Rattle.std.proofs.Common.{◌≡◌, drop, []}
use Rattle.terra_lib.specs.Fields.{types_from}
use Rattle.terra_lib.proofs.fields.types_in.Given as goal

abbrev pub invariant-loop-value : goal.invariant-loop-value
invariant-loop-value l = types_from l.types.items (drop l.value-index l.values) ≡ types_from [] l.values
