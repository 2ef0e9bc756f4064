use Rattle.std.proofs.Common.{◌≡◌, drop}
use Rattle.terra_meaning.specs.Meaning.{constructed}
use Rattle.terra_eval.proofs.operate.construct.Given as goal

-- the bytes with the entries so far, and the entries that are left
abbrev pub invariant-loop-i : goal.invariant-loop-i
invariant-loop-i l =
    constructed l.types l.initial.all.items l.offsets l.operands l.values
    ≡ constructed l.types l.all.items (drop l.i l.offsets) (drop l.i l.operands) (drop l.i l.values)
