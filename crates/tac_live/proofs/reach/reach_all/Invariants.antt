use Rattle.std.proofs.Common.{◌≡◌, drop}
use Rattle.tac_live.specs.Reach.{search, all_reached}
use Rattle.tac_live.proofs.reach.reach_all.Given as goal

-- with those that are left, all are reached
abbrev pub invariant-loop-b : goal.invariant-loop-b
invariant-loop-b l =
    all_reached l.stops (drop l.b-index l.blocks) l.turn (search l.marks.items l.found.items)
    ≡ all_reached l.stops l.blocks l.turn (search l.initial.marks.items l.initial.found.items)
