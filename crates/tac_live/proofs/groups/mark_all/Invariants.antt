use Rattle.std.proofs.Common.{◌≡◌, drop}
use Rattle.tac_live.specs.Flows.{all_marked}
use Rattle.tac_live.proofs.groups.mark_all.Given as goal

-- with those that are left, all are marked
abbrev pub invariant-loop-k : goal.invariant-loop-k
invariant-loop-k l = all_marked (drop l.k-index l.ks) l.turn l.marks.items ≡ all_marked l.ks l.turn l.initial.marks.items
