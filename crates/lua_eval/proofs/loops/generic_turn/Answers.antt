use Rattle.std.proofs.Common.{sym, ap, refl, ◌∙◌, List}
use Rattle.tl_base.specs.declared.ids.NodeId.{NodeId}
use Rattle.tl_tree.specs.Arena.{items_of}
use Rattle.lua_value.specs.declared.value.Value.{Value}
use Rattle.lua_model.specs.declared.scope.Scope.{Scope}
use Rattle.lua_model.specs.Plans.{LuaPlan, within}
use Rattle.lua_model.specs.Loops.{turn_block, list_next}
use Rattle.tl_tree.specs.Code.{statements_at}
use Rattle.lua_eval.proofs.Below.{moved, statements_below}
use Rattle.lua_eval.specs.declared.frame.LuaFrame.TheVariants as frames
use Rattle.lua_eval.specs.declared.frame.TurnFrame.TheVariants as of_turn
use Rattle.tl_base.proofs.Results.{if-ok}
use Rattle.lua_eval.proofs.loops.generic_turn.Goals as goal

pub returns-in_ok-push-in-GenericFor-clause-means : goal.returns-in_ok-push-in-GenericFor-clause-means
returns-in_ok-push-in-GenericFor-clause-means c =
    let a = c.args in
    let items = items_of a.tree.now in
    let block = c.in-GenericFor.block in
    let names = c.as_slice.result in
    let ns = c.in-GenericFor.names in
    let inner = c.within.result in
    let s = a.heap.now in
    let u = c.turn_block.new.heap in
    let left = a.budget.now in
    let left2 = c.turn_block.new.budget in
    let go : List NodeId → List Value → LuaPlan = λ l all. list_next items a.node l a.place a.scope a.function a.state a.control all in
    rw c.in-GenericFor.is (if-ok c.turn_block.result c.turn_block.ensures.means (λ v it. moved items a.frames.now.items c.turn_block.new.frames.items
    (turn_block items block (within a.scope a.env) a.out (go ns)) (turn_block items block inner a.out (go names.now))
    s s u left left2 v
    (ap (λ (l : List NodeId). turn_block items block (within a.scope a.env) a.out (go l)) (sym c.as_slice.ensures)
    ∙ ap (λ (sc : Scope). turn_block items block sc a.out (go names.now)) (sym c.within.ensures)) refl
    (statements_below items a.frames.now.items c.push.new.self.items c.turn_block.new.frames.items
    (frames.Turn a.node a.scope (of_turn.Listed names a.place a.function a.state a.control)) s u left left2 v
    (statements_at items block) inner a.out c.in_ok-push-in-GenericFor.ensures.items it)))
