use Rattle.check_model.specs.declared.question.BodyQuestion.TheVariants.{CallLua}
use Rattle.check_expr.specs.declared.frame.BodyFrame.TheVariants as frames
use Rattle.check_expr.proofs.Doing.{asks}
use Rattle.check_expr.proofs.asking.ask.Goals as goal

pub returns : goal.returns
returns c =
    let a = c.args in
    record {
      means = λ w left.
          asks a.frames.now.items c.push.new.self.items (frames.Asked a.then) (CallLua a.handler a.arguments a.at) w left
          c.in_ok-push.ensures.items;
    }
