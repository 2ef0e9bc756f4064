use Rattle.std.proofs.Common.{◌∙◌, List, ◌+◌, sym, ap, drop, arith, append-nil}
use Rattle.terra_eval.specs.declared.events.Event.{Event}
use Rattle.terra_eval.specs.declared.events.Event.TheVariants as kinds
use Rattle.terra_eval.specs.Framing.{taken_with}
use Rattle.terra_eval.specs.Views.{events_in}
use Rattle.terra_eval.proofs.Turns.{turn, none-left}
use Rattle.terra_eval.proofs.laying.taken.Goals as goal

pub loop-event-preserved : goal.loop-event-preserved
loop-event-preserved c =
    let es = c.args.events.now in
    let i = c.loop-event.event-index in
    c.loop-event.invariant ∙ ap (λ (l : List Event). taken_with c.loop-event.scopes (events_in l)) (turn es i kinds.Opens c.loop-event-test.true)
    ∙ sym (c.in_ok-step.ensures (events_in (drop (i + 1) es)))

pub returns : goal.returns
returns c =
    let es = c.args.events.now in
    let i = c.loop-event.event-index in
    sym (c.loop-event.invariant ∙ ap (λ (l : List Event). taken_with c.loop-event.scopes (events_in l)) (none-left es i (omega arith)) ∙ append-nil c.loop-event.scopes.taken.items)
