use Rattle.std.proofs.Common.{◌≡◌, drop}
use Rattle.tac_live.specs.Flows.{all_put}
use Rattle.tac_live.proofs.groups.put_all.Given as goal

-- with those that are left, it is in all groups
abbrev pub invariant-loop-k : goal.invariant-loop-k
invariant-loop-k l = all_put (drop l.k-index l.ks) l.x l.groups.items ≡ all_put l.ks l.x l.initial.groups.items
