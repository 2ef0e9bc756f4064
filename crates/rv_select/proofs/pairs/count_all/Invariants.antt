use Rattle.std.proofs.Common.{◌≡◌, drop}
use Rattle.rv_select.specs.Pairs.{counted}
use Rattle.rv_select.proofs.pairs.count_all.Given as goal

-- with those that are left, all are counted
abbrev pub invariant-loop-t : goal.invariant-loop-t
invariant-loop-t l = counted l.reads (drop l.t-index l.temps) ≡ counted l.initial.reads l.temps
