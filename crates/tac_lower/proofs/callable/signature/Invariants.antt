use Rattle.std.proofs.Common.{◌≡◌, ◌++◌, map, drop}
use Rattle.tac_lower.specs.Lowering.{type_of_name}
use Rattle.tac_lower.proofs.callable.signature.Given as goal

abbrev pub invariant-loop-name : goal.invariant-loop-name
invariant-loop-name l = map type_of_name l.k.parameters.now ≡ l.params.items ++ map type_of_name (drop l.name-index l.k.parameters.now)
