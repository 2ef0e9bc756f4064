use Rattle.std.proofs.Common.{◌≡◌, drop}
use Rattle.tac_live.specs.Flows.{all_exposed}
use Rattle.tac_live.proofs.flow.expose_all.Given as goal

-- with those that are left, all are exposed
abbrev pub invariant-loop-t : goal.invariant-loop-t
invariant-loop-t l =
    all_exposed (drop l.t-index l.temps) l.b l.turn l.marks l.groups.items ≡ all_exposed l.temps l.b l.turn l.marks l.initial.groups.items
