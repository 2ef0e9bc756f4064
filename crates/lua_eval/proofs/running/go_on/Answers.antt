use Rattle.std.proofs.Common.{[], refl, sym}
use Rattle.lua_model.specs.Plans.{statements, within}
use Rattle.lua_eval.specs.Frames.{after}
use Rattle.lua_eval.specs.declared.frame.LuaFrame.TheVariants as frames
use Rattle.lua_eval.proofs.Below.{moved, statements_below}
use Rattle.lua_eval.proofs.Making.{statements_are}
use Rattle.tl_base.proofs.Results.{if-ok}
use Rattle.lua_eval.proofs.running.go_on.Goals as goal

pub returns-in-At : goal.returns-in-At
returns-in-At c = record {
  means = rw c.in-At.is (if-ok c.statements.result c.statements.ensures.means (λ v it. it));
}

pub returns-in_ok-push-in-Within : goal.returns-in_ok-push-in-Within
returns-in_ok-push-in-Within c = record {
  means =
      let a = c.args in
      let m = c.in-Within in
      let f = frames.Block m.behind a.scope a.out in
      let inner = c.within.result in
      let none = c.new-none.result in
      let fs = a.frames.now.items in
      let fs2 = c.statements-in-Within.new.frames.items in
      rw m.is (if-ok c.statements-in-Within.result c.statements-in-Within.ensures.means (λ step it items s left.
      moved items fs fs2 (statements m.inside.now (within a.scope m.env) [] (after items f)) (statements m.inside.now inner none (after items f))
      s s s left left step
      (statements_are m.inside.now m.inside.now (within a.scope m.env) inner [] none (after items f) refl (sym c.within.ensures)
      (sym c.new-none.ensures))
      refl
      (statements_below items fs c.push.new.self.items fs2 f s s left left step m.inside.now inner none c.in_ok-push-in-Within.ensures.items
      (it items s left))));
}
