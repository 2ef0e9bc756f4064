use Rattle.std.proofs.Common.{refl, sym, ap}
use Rattle.tl_tree.specs.Arena.{items_of}
use Rattle.lua_model.specs.declared.scope.Scope.{Scope}
use Rattle.lua_model.specs.Plans.{within}
use Rattle.lua_eval.specs.Frames.{after}
use Rattle.lua_eval.specs.Waiting.{stop_plan}
use Rattle.lua_eval.specs.declared.frame.LuaFrame.TheVariants as frames
use Rattle.lua_eval.specs.declared.frame.TurnFrame.TheVariants as of_turn
use Rattle.lua_eval.proofs.Below.{moved}
use Rattle.tl_base.proofs.Results.{if-ok}
use Rattle.lua_eval.proofs.Waited.{stop_below}
use Rattle.lua_eval.proofs.turns.turn_on.Goals as goal

pub returns-in_ok-push-in-Inside-clause-means : goal.returns-in_ok-push-in-Inside-clause-means
returns-in_ok-push-in-Inside-clause-means c =
    let a = c.args in
    let m = c.in-Inside in
    let items = items_of a.tree.now in
    let f = frames.Turn a.node a.scope (of_turn.Counted a.at a.limit a.by) in
    let inner = c.within.result in
    let fs = a.frames.now.items in
    let r = c.begin_left in
    let fs2 = r.new.frames.items in
    let s = a.heap.now in
    let left = a.budget.now in
    rw m.is (if-ok r.result r.ensures.means (λ step it.
    moved items fs fs2 (stop_plan m.stop (within a.scope m.env) a.out (after items f)) (stop_plan m.stop inner a.out (after items f))
    s s r.new.heap left r.new.budget step
    (ap (λ (sc : Scope). stop_plan m.stop sc a.out (after items f)) (sym c.within.ensures)) refl
    (stop_below items fs c.push.new.self.items fs2 f m.stop inner a.out s r.new.heap left r.new.budget step c.in_ok-push-in-Inside.ensures.items it)))
