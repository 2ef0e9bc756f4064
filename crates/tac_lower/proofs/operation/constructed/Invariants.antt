use Rattle.std.proofs.Common.{◌≡◌, map, drop}
use Rattle.tac_lower.specs.Lowering.{constructed}
use Rattle.tac_lower.specs.Works.{behind}
use Rattle.tac_lower.specs.Data.{result_of}
use Rattle.tac_lower.proofs.operation.constructed.Given as goal

-- the entries that are left
abbrev pub invariant-loop-i : goal.invariant-loop-i
invariant-loop-i l =
    behind l.fn.work (constructed l.types l.n l.offsets l.operands (map result_of l.values) l.fn.work.used)
    ≡ behind l.work (constructed l.types l.n (drop l.i l.offsets) (drop l.i l.operands) (map result_of (drop l.i l.values)) l.work.used)
