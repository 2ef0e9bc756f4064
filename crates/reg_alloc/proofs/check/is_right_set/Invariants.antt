use Rattle.reg_alloc.specs.Homes.{IsTaken}
use Rattle.reg_alloc.proofs.check.is_right_set.Given as goal

abbrev pub invariant-loop-t : goal.invariant-loop-t
invariant-loop-t l = IsTaken l.homes l.set l.t l.taken
