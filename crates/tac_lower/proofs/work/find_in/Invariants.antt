use Rattle.std.proofs.Common.{◌≡◌, map, drop}
use Rattle.tac_lower.specs.Pieces.{holder_of}
use Rattle.tac_lower.specs.Data.{bound_of}
use Rattle.tac_lower.proofs.work.find_in.Given as goal

-- the variables that were passed have other symbols
abbrev pub invariant-loop-v : goal.invariant-loop-v
invariant-loop-v l = holder_of l.x (map bound_of l.scope) ≡ holder_of l.x (map bound_of (drop l.v-index l.scope))
