use Rattle.std.proofs.Common.{◌≡◌, ap, List, arith, length, drop}
use Rattle.terra_eval.specs.declared.events.Event.{Event}
use Rattle.terra_eval.specs.declared.events.Event.TheVariants as kinds
use Rattle.terra_eval.proofs.Turns.{declared-turn, none-left}
use Rattle.terra_eval.specs.Views.{events_in}
use Rattle.terra_term.specs.Events.{declared_in}
use Rattle.terra_eval.proofs.events.declarations.Goals as goal

pub loop-event-preserved : goal.loop-event-preserved
loop-event-preserved c =
    let turn = declared-turn c.args.events.now c.loop-event.event-index kinds.Opens c.loop-event-test.true in
    record {
      within = omega (arith, c.loop-event.invariant.within, c.declares-count.ensures.one);
      so_far = omega (arith, c.loop-event.invariant.so_far, c.declares-count.ensures.declared, turn);
    }

pub returns : goal.returns
returns c =
    let none : length (declared_in (events_in (drop c.loop-event.event-index c.args.events.now))) ≡ 0 =
    ap (λ (l : List Event). length (declared_in (events_in l))) (none-left c.args.events.now c.loop-event.event-index (omega arith)) in
    omega (arith, c.loop-event.invariant.so_far, none)
