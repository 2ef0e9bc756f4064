use Rattle.std.proofs.Common.{◌≡◌, drop}
use Rattle.terra_meaning.specs.Meaning.{same_types}
use Rattle.terra_eval.proofs.operate.same_types.Given as goal

-- those that were passed are the same
abbrev pub invariant-loop-i : goal.invariant-loop-i
invariant-loop-i l = same_types l.types l.names ≡ same_types (drop l.i l.types) (drop l.i l.names)
