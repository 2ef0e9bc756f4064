use Rattle.std.proofs.Common.{inl}
use Rattle.reg_alloc.proofs.scan.begin.Goals as goal

pub returns-in-Some : goal.returns-in-Some
returns-in-Some c =
    inl (record {
      register = c.in-Some.r;
      there = c.in-Some.ensures.0;
      free = c.in-Some.ensures.1;
      new_is = c.hold.ensures c.args.slots;
    })
