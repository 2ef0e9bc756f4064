use Rattle.std.proofs.Common.{◌≡◌, ◌-◌, true}
use Rattle.reg_alloc.specs.Homes.{are_below}
use Rattle.reg_alloc.proofs.scan.room_for.Given as goal

abbrev pub decreases-grow : goal.decreases-grow
decreases-grow l = 4398046511104 - l.count

-- nothing grows where all temporaries are the code's own
abbrev pub invariant-grow : goal.invariant-grow
invariant-grow l = are_below l.temps l.graph ≡ true → l.count ≡ l.temps
