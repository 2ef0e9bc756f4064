use Rattle.std.proofs.Common.{◌≡◌, ◌+◌, ◌≤◌, length, drop}
use Rattle.terra_term.specs.Events.{declared_in}
use Rattle.terra_eval.specs.Views.{events_in}
use Rattle.terra_eval.proofs.events.declarations.Given as goal

-- the declarations so far, and those that are left
abbrev pub invariant-loop-event : goal.invariant-loop-event
invariant-loop-event l = record {
  within : l.count ≤ l.event-index;
  so_far : l.count + length (declared_in (events_in (drop l.event-index l.events))) ≡ length (declared_in (events_in l.events));
}
