use Rattle.std.proofs.Common.{◌≡◌, drop}
use Rattle.terra_meaning.specs.Frames.{has}
use Rattle.terra_eval.proofs.frame.has.Given as goal

-- the numbers that were passed are others
abbrev pub invariant-loop-n : goal.invariant-loop-n
invariant-loop-n l = has l.number l.numbers ≡ has l.number (drop l.n-index l.numbers)
