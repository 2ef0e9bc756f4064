use Rattle.std.proofs.Common.{◌+◌, drop, get_or, arith}
use Rattle.terra_term.specs.declared.lists.TypedName.{TypedName}
use Rattle.terra_term.specs.Events.{declares, declares_all}
use Rattle.terra_eval.specs.Views.{events_in}
use Rattle.terra_eval.proofs.Putting.{part-turn, part-end, names-turn, names-end}
use Rattle.terra_eval.proofs.events.declare_all.Goals as goal

pub loop-name-preserved : goal.loop-name-preserved
loop-name-preserved c =
    let names = c.args.names.now in
    let i = c.loop-name.name-index in
    let none : TypedName = record { symbol = record { 0 = 0 }; of = record { 0 = 0 } } in
    part-turn (declares_all names) (events_in c.args.events.now.items) (events_in c.loop-name.events.items) _
    (declares (get_or names i none)) (declares_all (drop i names)) (declares_all (drop (i + 1) names))
    c.loop-name.invariant (names-turn names i none c.loop-name-test.true) c.in_ok-put.ensures

pub returns : goal.returns
returns c =
    part-end (declares_all c.args.names.now) (events_in c.args.events.now.items) (events_in c.loop-name.events.items) (declares_all (drop c.loop-name.name-index c.args.names.now))
    c.loop-name.invariant (names-end c.args.names.now c.loop-name.name-index (omega arith))
