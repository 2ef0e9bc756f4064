use Rattle.std.proofs.Common.{◌≡◌, drop}
use Rattle.rv_select.specs.Asked.{with_given}
use Rattle.rv_select.proofs.asked.give_all.Given as goal

-- with those that are left, all have theirs
abbrev pub invariant-loop-t : goal.invariant-loop-t
invariant-loop-t l = with_given l.homes l.given (drop l.t-index l.temps) ≡ with_given l.homes l.initial.given l.temps
