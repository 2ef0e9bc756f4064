use Rattle.std.proofs.Common.{◌≡◌, drop}
use Rattle.terra_meaning.specs.Meaning.{assigned_all}
use Rattle.terra_eval.specs.Trees.{list_before}
use Rattle.terra_eval.proofs.assigning.assign_all.Given as goal

-- what is left to assign
abbrev pub invariant-loop-i : goal.invariant-loop-i
invariant-loop-i l =
    assigned_all l.call.store.now.types (list_before l.call.store.now l.below l.targets) l.places l.values l.fn.state
    ≡ assigned_all l.call.store.now.types (list_before l.call.store.now l.below (drop l.i l.targets)) (drop l.i l.places) (drop l.i l.values) l.state
