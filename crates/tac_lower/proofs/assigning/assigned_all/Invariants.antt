use Rattle.std.proofs.Common.{◌≡◌, map, drop}
use Rattle.terra_eval.specs.Trees.{list_before}
use Rattle.tac_lower.specs.Lowering.{assigned_all}
use Rattle.tac_lower.specs.Works.{behind}
use Rattle.tac_lower.specs.Data.{result_of, target_of}
use Rattle.tac_lower.proofs.assigning.assigned_all.Given as goal

-- the assignments that are left
abbrev pub invariant-loop-i : goal.invariant-loop-i
invariant-loop-i l =
    behind l.fn.work (assigned_all l.store.types (list_before l.store l.below l.nodes) (map target_of l.targets) (map result_of l.values) l.fn.work.used)
    ≡ behind l.work (assigned_all l.store.types (list_before l.store l.below (drop l.i l.nodes)) (map target_of (drop l.i l.targets))
    (map result_of (drop l.i l.values)) l.work.used)
