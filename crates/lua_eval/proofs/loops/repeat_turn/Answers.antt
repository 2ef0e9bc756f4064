use Rattle.std.proofs.Common.{Some}
use Rattle.tl_tree.specs.Arena.{items_of}
use Rattle.lua_model.specs.Loops.{turn_block, repeat_test}
use Rattle.tl_tree.specs.Code.{statements_at}
use Rattle.lua_eval.proofs.Below.{statements_below}
use Rattle.lua_eval.proofs.Turning.{env_kept_on}
use Rattle.lua_eval.proofs.Making.{entering_goes}
use Rattle.lua_eval.specs.declared.frame.LuaFrame.TheVariants as frames
use Rattle.lua_eval.specs.declared.frame.TurnFrame.TheVariants as of_turn
use Rattle.tl_base.proofs.Results.{if-ok, on-ok}
use Rattle.lua_eval.proofs.loops.repeat_turn.Goals as goal

pub returns-in_ok-push-in-Repeat-clause-means : goal.returns-in_ok-push-in-Repeat-clause-means
returns-in_ok-push-in-Repeat-clause-means c =
    let a = c.args in
    let items = items_of a.tree.now in
    let block = c.in-Repeat.block in
    let t = c.new_env.new.self in
    let u = c.turn_block.new.heap in
    let left = a.budget.now in
    let left2 = c.turn_block.new.budget in
    rw c.in-Repeat.is (if-ok c.turn_block.result c.turn_block.ensures.means (λ v it. entering_goes items a.frames.now.items c.turn_block.new.frames.items a.node a.scope c.within-inner.result
    (λ inner. turn_block items block inner a.out (λ all. repeat_test a.node c.in-Repeat.condition a.scope inner all))
    a.heap.now t u left left2 v c.in_ok-env-in-Repeat.env c.within-inner.ensures c.in_ok-env-in-Repeat.ensures.id c.in_ok-env-in-Repeat.ensures.ok
    (statements_below items a.frames.now.items c.push.new.self.items c.turn_block.new.frames.items
    (frames.Turn a.node a.scope (of_turn.Repeat c.in-Repeat.condition c.within-inner.result)) t u left left2 v (statements_at items block) c.within-inner.result a.out
    c.in_ok-push-in-Repeat.ensures.items it)))

pub returns-in_ok-push-in-Repeat-clause-kept : goal.returns-in_ok-push-in-Repeat-clause-kept
returns-in_ok-push-in-Repeat-clause-kept c =
    on-ok c.turn_block.result c.turn_block.ensures.kept (λ kept. env_kept_on c.args.heap.now c.new_env.new.self c.turn_block.new.heap c.args.node (Some c.args.scope.env) c.in_ok-env-in-Repeat.ensures.ok
    kept)
