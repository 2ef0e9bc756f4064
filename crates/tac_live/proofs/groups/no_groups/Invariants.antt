use Rattle.std.proofs.Common.{◌≡◌, [], replicate}
use Rattle.tac_live.proofs.groups.no_groups.Given as goal

abbrev pub invariant-loop : goal.invariant-loop
invariant-loop l = l.groups.items ≡ replicate l.counter []
