use Rattle.std.proofs.Common.{Some}
use Rattle.tl_tree.specs.Arena.{items_of}
use Rattle.lua_model.specs.Loops.{turn_block, while_test}
use Rattle.tl_tree.specs.Code.{statements_at}
use Rattle.lua_eval.proofs.Below.{statements_below}
use Rattle.lua_eval.proofs.Turning.{env_kept_on}
use Rattle.lua_eval.proofs.Making.{entering_goes}
use Rattle.lua_eval.specs.declared.frame.LuaFrame.TheVariants as frames
use Rattle.lua_eval.specs.declared.frame.TurnFrame.TheVariants as of_turn
use Rattle.tl_base.proofs.Results.{if-ok, on-ok}
use Rattle.lua_eval.proofs.loops.while_turn.Goals as goal

pub returns-in_ok-push-in-While-clause-means : goal.returns-in_ok-push-in-While-clause-means
returns-in_ok-push-in-While-clause-means c =
    let a = c.args in
    let items = items_of a.tree.now in
    let block = c.in-While.block in
    let t = c.new_env.new.self in
    let u = c.turn_block.new.heap in
    let left = a.budget.now in
    let left2 = c.turn_block.new.budget in
    rw c.in-While.is (if-ok c.turn_block.result c.turn_block.ensures.means (λ v it. entering_goes items a.frames.now.items c.turn_block.new.frames.items block a.scope c.within.result
    (λ inner. turn_block items block inner a.out (λ all. while_test a.node c.in-While.condition a.scope all))
    a.heap.now t u left left2 v c.in_ok-env-in-While.env c.within.ensures c.in_ok-env-in-While.ensures.id c.in_ok-env-in-While.ensures.ok
    (statements_below items a.frames.now.items c.push.new.self.items c.turn_block.new.frames.items
    (frames.Turn a.node a.scope (of_turn.While c.in-While.condition)) t u left left2 v (statements_at items block) c.within.result a.out
    c.in_ok-push-in-While.ensures.items it)))

pub returns-in_ok-push-in-While-clause-kept : goal.returns-in_ok-push-in-While-clause-kept
returns-in_ok-push-in-While-clause-kept c =
    on-ok c.turn_block.result c.turn_block.ensures.kept (λ kept. env_kept_on c.args.heap.now c.new_env.new.self c.turn_block.new.heap c.in-While.block (Some c.args.scope.env) c.in_ok-env-in-While.ensures.ok
    kept)
