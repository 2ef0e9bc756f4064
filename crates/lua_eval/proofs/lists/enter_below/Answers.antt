use Rattle.lua_eval.proofs.Doing.{enters}
use Rattle.lua_eval.proofs.lists.enter_below.Goals as goal

pub returns : goal.returns
returns c =
    let a = c.args in
    record {
      means = λ items s left.
          enters items a.frames.now.items c.push.new.self.items a.frame a.job s left c.in_ok-push.ensures.items;
    }
