use Rattle.std.proofs.Common.{◌≡◌, map, drop}
use Rattle.tac_lower.specs.Lowering.{are_narrow, type_of_name}
use Rattle.tac_lower.proofs.callable.are_narrow.Given as goal

abbrev pub invariant-loop-name : goal.invariant-loop-name
invariant-loop-name l = are_narrow l.types (map type_of_name l.names) ≡ are_narrow l.types (map type_of_name (drop l.name-index l.names))
