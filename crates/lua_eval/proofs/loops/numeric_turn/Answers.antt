use Rattle.std.proofs.Common.{ap, ◌∙◌, Some}
use Rattle.tl_tree.specs.Arena.{items_of}
use Rattle.lua_table.specs.LuaState.{LuaState}
use Rattle.lua_table.proofs.Keeping.{keeps_then}
use Rattle.lua_model.specs.Loops.{turn_block, count_from}
use Rattle.tl_tree.specs.Code.{statements_at}
use Rattle.lua_eval.proofs.Below.{statements_below}
use Rattle.lua_eval.proofs.Turning.{env_kept_on}
use Rattle.lua_eval.proofs.Making.{variable_goes}
use Rattle.lua_table.specs.Cells.{declare}
use Rattle.lua_value.specs.Numbers.{number_from}
use Rattle.std.specs.Prelude.{◌+ℤ◌}
use Rattle.lua_eval.specs.declared.frame.LuaFrame.TheVariants as frames
use Rattle.lua_eval.specs.declared.frame.TurnFrame.TheVariants as of_turn
use Rattle.lua_value.specs.declared.value.Value.TheVariants as values
use Rattle.tl_base.proofs.Results.{if-ok, on-ok}
use Rattle.lua_eval.proofs.loops.numeric_turn.Goals as goal

pub returns-in_ok-push-in-NumericFor-clause-means : goal.returns-in_ok-push-in-NumericFor-clause-means
returns-in_ok-push-in-NumericFor-clause-means c =
    let a = c.args in
    let items = items_of a.tree.now in
    let block = c.in-NumericFor.block in
    let env = c.in_ok-env-in-NumericFor.env in
    let t = c.declare.new.heap in
    let u = c.turn_block.new.heap in
    let left = a.budget.now in
    let left2 = c.turn_block.new.budget in
    rw c.in-NumericFor.is (if-ok c.turn_block.result c.turn_block.ensures.means (λ v it. variable_goes items a.frames.now.items c.turn_block.new.frames.items a.node a.scope c.within.result (values.Number a.at)
    (λ inner. turn_block items block inner a.out (λ all. count_from a.node a.scope (number_from (a.at +ℤ a.by)) a.limit a.by all))
    a.heap.now t u left left2 v env c.within.ensures c.in_ok-env-in-NumericFor.ensures.id
    (c.in_ok-declare-in-NumericFor.ensures.ok ∙ ap (λ (s : LuaState). declare env (values.Number a.at) s) c.in_ok-env-in-NumericFor.ensures.ok)
    (statements_below items a.frames.now.items c.push.new.self.items c.turn_block.new.frames.items
    (frames.Turn a.node a.scope (of_turn.Counted a.at a.limit a.by)) t u left left2 v (statements_at items block)
    c.within.result a.out c.in_ok-push-in-NumericFor.ensures.items it)))

pub returns-in_ok-push-in-NumericFor-clause-kept : goal.returns-in_ok-push-in-NumericFor-clause-kept
returns-in_ok-push-in-NumericFor-clause-kept c =
    on-ok c.turn_block.result c.turn_block.ensures.kept (λ kept. env_kept_on c.args.heap.now c.new_env.new.self c.turn_block.new.heap c.args.node (Some c.args.scope.env) c.in_ok-env-in-NumericFor.ensures.ok
    (keeps_then c.new_env.new.self c.declare.new.heap c.turn_block.new.heap c.in_ok-declare-in-NumericFor.ensures.kept
    kept))
