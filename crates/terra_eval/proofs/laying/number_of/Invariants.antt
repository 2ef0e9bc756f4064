use Rattle.std.proofs.Common.{◌≡◌, drop}
use Rattle.terra_meaning.specs.Frames.{number_of}
use Rattle.terra_eval.specs.Framing.{scope_of}
use Rattle.terra_eval.proofs.laying.number_of.Given as goal

-- the declarations that were passed have other symbols
abbrev pub invariant-loop-d : goal.invariant-loop-d
invariant-loop-d l = number_of l.x (scope_of l.here) ≡ number_of l.x (scope_of (drop l.d-index l.here))
