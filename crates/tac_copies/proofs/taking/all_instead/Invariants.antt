use Rattle.std.proofs.Common.{◌≡◌, map, take}
use Rattle.tac_copies.specs.Taken.{goes_instead}
use Rattle.tac_copies.proofs.taking.all_instead.Given as goal

abbrev pub invariant-loop-parameter : goal.invariant-loop-parameter
invariant-loop-parameter l = l.made.items ≡ map (goes_instead l.p l.v) (take l.parameter-index l.parameters)
