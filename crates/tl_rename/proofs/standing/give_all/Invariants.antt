use Rattle.std.proofs.Common.{◌≡◌, drop}
use Rattle.tl_tree.specs.Scopes.{give, all_in}
use Rattle.tl_rename.proofs.standing.give_all.Given as goal

-- with what is still to be given, all is given
abbrev pub invariant-loop-n : goal.invariant-loop-n
invariant-loop-n l = give l.limit.0 l.standing (all_in l.scope (drop l.n-index l.ns)) ≡ give l.limit.0 l.initial.standing (all_in l.scope l.ns)
