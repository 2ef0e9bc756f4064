use Rattle.lua_eval.specs.declared.frame.LuaFrame.TheVariants as frames
use Rattle.tl_base.proofs.Results.{if-ok}
use Rattle.lua_eval.proofs.Waited.{calling_below}
use Rattle.lua_eval.proofs.waiting.stop_on.Goals as goal

pub returns-in-Plain : goal.returns-in-Plain
returns-in-Plain c = record {
  means = rw c.in-Plain.is (if-ok c.go_on.result c.go_on.ensures.means (λ v it. it));
}

pub returns-in_ok-push-in-Calling-2 : goal.returns-in_ok-push-in-Calling-2
returns-in_ok-push-in-Calling-2 c = record {
  means =
      let a = c.args in
      let m = c.in-Calling in
      let f = frames.Block m.behind a.scope a.out in
      let fs = a.frames.now.items in
      rw m.is (if-ok c.inside_on.result c.inside_on.ensures.means (λ step it items s left.
      calling_below items fs c.push.new.self.items c.push-in-Calling.new.self.items c.inside_on.new.frames.items f m.inside m.inner a.scope m.wait
      s s left left step c.in_ok-push-in-Calling.ensures.items c.in_ok-push-in-Calling-2.ensures.items (it items s left)));
}
