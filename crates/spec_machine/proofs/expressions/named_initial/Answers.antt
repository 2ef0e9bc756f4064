use Rattle.std.proofs.Common.{◌-◌}
use Rattle.lua_value.specs.declared.value.Value.TheVariants as values
use Rattle.spec_model.specs.declared.end.End.TheVariants as ends
use Rattle.spec_model.specs.declared.job.Job.TheVariants as jobs
use Rattle.spec_machine.specs.declared.frame.SpecFrame.TheVariants as frames
use Rattle.spec_machine.specs.declared.frame.TermFrame.TheVariants as of_term
use Rattle.spec_machine.specs.declared.frame.NextFrame.TheVariants as of_next
use Rattle.spec_machine.proofs.Doing.{bounces, enters}
use Rattle.spec_machine.proofs.expressions.named_initial.Goals as goal

pub returns-in_ok-push-in-Some : goal.returns-in_ok-push-in-Some
returns-in_ok-push-in-Some c =
    let a = c.args in
    let f = a.frame in
    let m = c.in-Some.named in
    let waits = frames.Term (of_term.Initial (record { name = m.name; rest = f.rest; names = f.names; terms = f.terms; made = f.made })) in
    record {
      means = λ items w left.
          rw c.in-Some.is (enters items a.frames.now.items c.push.new.self.items waits (jobs.Expression m.value f.made.env) w left c.in_ok-push-in-Some.ensures.items);
    }

pub returns-in_ok-push-in-None : goal.returns-in_ok-push-in-None
returns-in_ok-push-in-None c =
    let a = c.args in
    let f = a.frame in
    record {
      means = λ items w left.
          rw c.in-None.is (bounces items a.frames.now.items c.push-in-None.new.self.items (frames.Next (of_next.Initials f)) (ends.Gave values.Nil) w left
          c.in_ok-push-in-None.ensures.items);
    }
