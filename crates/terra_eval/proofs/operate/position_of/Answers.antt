use Rattle.std.proofs.Common.{arith}
use Rattle.tl_base.specs.declared.ids.FnId.{FnId}
use Rattle.terra_eval.proofs.Turns.{position-here, position-later, position-none}
use Rattle.terra_eval.proofs.operate.position_of.Goals as goal

pub returns-then-f-entry : goal.returns-then-f-entry
returns-then-f-entry c =
    let none : FnId = record { 0 = 0 } in
    position-here c.args.f c.args.entries.now c.loop-entry.entry-index c.loop-entry.position none c.loop-entry-test.true c.loop-entry.invariant.passed c.if-f-entry.true

pub loop-entry-preserved : goal.loop-entry-preserved
loop-entry-preserved c =
    let none : FnId = record { 0 = 0 } in
    record {
      next = omega arith;
      passed = position-later c.args.f c.args.entries.now c.loop-entry.entry-index c.loop-entry.position none c.loop-entry-test.true c.loop-entry.invariant.passed c.if-f-entry.false;
    }

pub returns : goal.returns
returns c = position-none c.args.f c.args.entries.now c.loop-entry.entry-index c.loop-entry.position (omega arith) c.loop-entry.invariant.passed
