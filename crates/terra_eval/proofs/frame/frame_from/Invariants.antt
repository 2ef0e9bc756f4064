use Rattle.std.proofs.Common.{◌≡◌, drop}
use Rattle.terra_term.specs.Events.{declared_in}
use Rattle.terra_meaning.specs.Frames.{framed}
use Rattle.terra_eval.specs.Framing.{laid_out}
use Rattle.terra_eval.specs.Views.{events_in}
use Rattle.terra_eval.proofs.frame.frame_from.Given as goal

-- the homes so far, and the frame of the events that are left
abbrev pub invariant-loop-event : goal.invariant-loop-event
invariant-loop-event l =
    framed l.types l.taken 0 0 (declared_in (events_in l.events))
    ≡ laid_out l.types l.taken l.homes.items l.offset (events_in (drop l.event-index l.events))
