use Rattle.std.proofs.Common.{arith}
use Rattle.terra_eval.proofs.Homes.{has-here, has-later, has-none}
use Rattle.terra_eval.proofs.frame.has.Goals as goal

pub returns-then-number-n : goal.returns-then-number-n
returns-then-number-n c = has-here c.args.number c.args.numbers.now c.loop-n.n-index c.loop-n-test.true c.loop-n.invariant c.if-number-n.true

pub loop-n-preserved : goal.loop-n-preserved
loop-n-preserved c = has-later c.args.number c.args.numbers.now c.loop-n.n-index c.loop-n-test.true c.loop-n.invariant c.if-number-n.false

pub returns : goal.returns
returns c = has-none c.args.number c.args.numbers.now c.loop-n.n-index (omega arith) c.loop-n.invariant
