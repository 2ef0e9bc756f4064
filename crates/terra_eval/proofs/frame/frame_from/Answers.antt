use Rattle.std.proofs.Common.{◌∙◌, List, ◌+◌, sym, ap, drop}
use Rattle.terra_eval.specs.declared.events.Event.{Event}
use Rattle.terra_eval.specs.declared.events.Event.TheVariants as kinds
use Rattle.terra_eval.specs.Framing.{laid_out}
use Rattle.terra_eval.specs.Views.{events_in}
use Rattle.terra_eval.proofs.Turns.{turn}
use Rattle.terra_eval.proofs.frame.frame_from.Goals as goal

pub loop-event-preserved : goal.loop-event-preserved
loop-event-preserved c =
    let types = c.args.types.now in
    let placed = c.args.taken.now in
    let es = c.args.events.now in
    let i = c.loop-event.event-index in
    c.loop-event.invariant ∙ ap (λ (l : List Event). laid_out types placed c.loop-event.homes.items c.loop-event.offset (events_in l)) (turn es i kinds.Opens c.loop-event-test.true)
    ∙ sym (c.in_ok-offset.ensures (events_in (drop (i + 1) es)))
