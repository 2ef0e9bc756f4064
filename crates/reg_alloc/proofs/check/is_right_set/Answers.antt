use Rattle.std.proofs.Common.{◌<◌, length, arith}
use Rattle.reg_alloc.proofs.Taking.{taken-turn}
use Rattle.reg_alloc.proofs.check.is_right_set.Goals as goal

pub loop-t-preserved : goal.loop-t-preserved
loop-t-preserved c =
    let short : c.loop-t.t < length c.args.homes.now = omega arith in
    taken-turn c.args.homes.now c.args.set.now c.loop-t.taken c.take_if.new.taken c.loop-t.t short c.if-not-take_if.ensures c.loop-t.invariant
