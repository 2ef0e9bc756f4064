use Rattle.std.proofs.Common.{arith}
use Rattle.terra_eval.specs.declared.laying.InScope.{InScope}
use Rattle.terra_eval.proofs.Turns.{turn}
use Rattle.terra_eval.proofs.Homes.{number-here, number-later, number-none}
use Rattle.terra_eval.proofs.laying.number_of.Goals as goal

pub returns-then-x-d : goal.returns-then-x-d
returns-then-x-d c =
    let none : InScope = record { symbol = record { 0 = 0 }; number = 0 } in
    number-here c.args.x c.args.here.now c.loop-d.d-index _ (turn c.args.here.now c.loop-d.d-index none c.loop-d-test.true) c.loop-d.invariant c.if-x-d.true

pub loop-d-preserved : goal.loop-d-preserved
loop-d-preserved c =
    let none : InScope = record { symbol = record { 0 = 0 }; number = 0 } in
    number-later c.args.x c.args.here.now c.loop-d.d-index _ (turn c.args.here.now c.loop-d.d-index none c.loop-d-test.true) c.loop-d.invariant c.if-x-d.false

pub returns : goal.returns
returns c = number-none c.args.x c.args.here.now c.loop-d.d-index (omega arith) c.loop-d.invariant
