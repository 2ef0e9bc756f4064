use Rattle.terra_eval.proofs.Turns.{turn}
use Rattle.tac_lower.proofs.Lines.{no-variable, found-here, found-later}
use Rattle.tac_lower.proofs.work.find_in.Goals as goal

pub returns-then-x-v : goal.returns-then-x-v
returns-then-x-v c =
    found-here c.args.x c.args.scope.now c.loop-v.v-index _ (turn c.args.scope.now c.loop-v.v-index no-variable c.loop-v-test.true) c.loop-v.invariant c.if-x-v.true

pub loop-v-preserved : goal.loop-v-preserved
loop-v-preserved c =
    found-later c.args.x c.args.scope.now c.loop-v.v-index _ (turn c.args.scope.now c.loop-v.v-index no-variable c.loop-v-test.true) c.loop-v.invariant c.if-x-v.false
