use Rattle.std.proofs.Common.{List, [], refl, sym, ap}
use Rattle.tl_base.specs.Plan.{Give}
use Rattle.lua_value.specs.declared.value.Value.{Value}
use Rattle.lua_eval.specs.Running.{halt_plan}
use Rattle.lua_eval.specs.declared.frame.LuaFrame.TheVariants as frames
use Rattle.lua_eval.proofs.Below.{moved}
use Rattle.tl_base.proofs.Results.{if-ok}
use Rattle.lua_eval.proofs.Waited.{halt_below}
use Rattle.lua_eval.proofs.calling.inside_on.Goals as goal

pub returns : goal.returns
returns c = record {
  means =
      let a = c.args in
      let f = frames.Function in
      let none = c.new-none.result in
      let fs = a.frames.now.items in
      let pushed = c.push.new.self.items in
      let fs2 = c.go_on.new.frames.items in
      if-ok c.go_on.result c.go_on.ensures.means (λ step it items s left.
      halt_below items fs pushed fs2 f a.halt a.scope [] s s left left step c.in_ok-push.ensures.items
      (moved items pushed fs2 (halt_plan a.halt a.scope [] Give) (halt_plan a.halt a.scope none Give) s s s left left step
      (ap (λ (o : List Value). halt_plan a.halt a.scope o Give) (sym c.new-none.ensures)) refl (it items s left)));
}
