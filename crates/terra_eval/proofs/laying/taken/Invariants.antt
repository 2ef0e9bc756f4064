use Rattle.std.proofs.Common.{◌≡◌, [], drop}
use Rattle.terra_meaning.specs.Frames as frames
use Rattle.terra_eval.specs.Framing.{taken_with}
use Rattle.terra_eval.specs.Views.{events_in}
use Rattle.terra_eval.proofs.laying.taken.Given as goal

-- the numbers so far, and those that the events take that are left
abbrev pub invariant-loop-event : goal.invariant-loop-event
invariant-loop-event l = frames.taken (events_in l.events) [] [] 0 ≡ taken_with l.scopes (events_in (drop l.event-index l.events))
