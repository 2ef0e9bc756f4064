use Rattle.std.proofs.Common.{◌≡◌, ◌++◌, map, drop}
use Rattle.tac_lower.specs.Pieces.{parts_of}
use Rattle.tac_lower.specs.Data.{result_of}
use Rattle.tac_lower.proofs.value.parts.Given as goal

abbrev pub invariant-loop-v : goal.invariant-loop-v
invariant-loop-v l = parts_of (map result_of l.values) ≡ l.parts.items ++ parts_of (map result_of (drop l.v-index l.values))
