use Rattle.spec_model.specs.declared.job.Job.TheVariants.{Expression}
use Rattle.spec_machine.specs.declared.frame.SpecFrame.TheVariants as frames
use Rattle.spec_machine.specs.declared.frame.TermFrame.TheVariants.{Backtick}
use Rattle.spec_machine.proofs.Doing.{enters}
use Rattle.spec_machine.proofs.quotes.backtick.Goals as goal

pub returns : goal.returns
returns c =
    let a = c.args in
    record {
      means = λ items w left.
          enters items a.frames.now.items c.push.new.self.items (frames.Term (Backtick a.place)) (Expression a.node a.env) w left
          c.in_ok-push.ensures.items;
    }
