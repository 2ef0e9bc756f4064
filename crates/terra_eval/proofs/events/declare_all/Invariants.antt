use Rattle.std.proofs.Common.{◌≡◌, ◌++◌, drop}
use Rattle.terra_term.specs.Events.{declares_all}
use Rattle.terra_eval.specs.Views.{events_in}
use Rattle.terra_eval.proofs.events.declare_all.Given as goal

-- the events so far, and those of the names that are left
abbrev pub invariant-loop-name : goal.invariant-loop-name
invariant-loop-name l = events_in l.fn.events.items ++ declares_all l.names ≡ events_in l.events.items ++ declares_all (drop l.name-index l.names)
