use Rattle.std.proofs.Common.{◌≡◌, map, drop, length}
use Rattle.tac_lower.specs.Pieces.{declare_all}
use Rattle.tac_lower.specs.Works.{scoped}
use Rattle.tac_lower.specs.Data.{result_of}
use Rattle.tac_lower.specs.Views.{around_of}
use Rattle.tac_lower.proofs.scope.declare_all.Given as goal

-- what is left to declare
abbrev pub invariant-loop-i : goal.invariant-loop-i
invariant-loop-i l =
    scoped l.fn.work (declare_all (around_of l.around) l.at l.names (map result_of l.values) l.fn.work.next l.fn.work.scope l.fn.work.used)
    (length l.names)
    ≡ scoped l.work (declare_all (around_of l.around) l.at (drop l.i l.names) (map result_of (drop l.i l.values)) l.work.next l.work.scope l.work.used)
    (length (drop l.i l.names))
