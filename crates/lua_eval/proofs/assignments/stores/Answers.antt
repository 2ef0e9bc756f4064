use Rattle.std.proofs.Common.{ℕ, ◌+◌, ◌-◌, ◌*◌, ◌<◌, List, refl, ap, ◌∙◌, arith}
use Rattle.lua_value.specs.declared.value.Value.{Value}
use Rattle.lua_table.specs.Cells.{nth_value}
use Rattle.tl_tree.specs.Arena.{items_of}
use Rattle.tl_tree.specs.Nodes.{item_at}
use Rattle.lua_model.specs.Assignments.{store_target, stores}
use Rattle.lua_eval.specs.declared.frame.LuaFrame.TheVariants as frames
use Rattle.lua_eval.specs.declared.frame.AllFrame.TheVariants as alls
use Rattle.lua_eval.proofs.Below.{moved, target_below}
use Rattle.lua_eval.proofs.Listing.{stores_at}
use Rattle.lua_eval.proofs.assignments.stores.Goals as goal

pub returns-then-left-eq1-clause-means : goal.returns-then-left-eq1-clause-means
returns-then-left-eq1-clause-means c =
    let a = c.args in
    let items = items_of a.tree.now in
    moved items a.frames.now.items c.last_store.new.frames.items
    (stores items a.targets.now a.scope a.held a.values a.left) (stores items a.targets.now a.scope a.held a.values 1)
    a.heap.now a.heap.now c.last_store.new.heap a.budget.now c.last_store.new.budget c.in_ok-last.last
    (ap (λ (n : ℕ). stores items a.targets.now a.scope a.held a.values n) c.if-left-eq1.true) refl c.in_ok-last.ensures.means

pub returns-clause-means : goal.returns-clause-means
returns-clause-means c =
    let a = c.args in
    let items = items_of a.tree.now in
    let fs = a.frames.now.items in
    let fs2 = c.store_target.new.frames.items in
    let s2 = c.store_target.new.heap in
    let b2 = c.store_target.new.budget in
    let step = c.in_ok-step.step in
    let n = c.node_in-target.result in
    let object = c.held_at-pair.result.0 in
    let key = c.held_at-pair.result.1 in
    let v = c.nth-value.result in
    let some : 0 < a.left = omega arith in
    let rest = stores items a.targets.now a.scope a.held a.values (a.left - 1) in
    moved items fs fs2 (stores items a.targets.now a.scope a.held a.values a.left)
    (store_target items (item_at items n) n a.scope object key v rest) a.heap.now a.heap.now s2 a.budget.now b2 step
    (stores_at items a.targets.now a.scope a.held a.values a.left n object key v some c.node_in-target.ensures
    (c.held_at-pair.ensures.object ∙ ap (λ (l : List Value). nth_value l (2 * (a.left - 1))) c.as_slice-2.ensures)
    (c.held_at-pair.ensures.key ∙ ap (λ (l : List Value). nth_value l (2 * (a.left - 1) + 1)) c.as_slice-2.ensures)
    (c.nth-value.ensures ∙ ap (λ (l : List Value). nth_value l (a.left - 1)) c.as_slice.ensures)) refl
    (target_below items fs c.push.new.self.items fs2 (frames.All (alls.Stores a.targets a.scope a.held a.values (a.left - 1)))
    a.heap.now s2 a.budget.now b2 step (item_at items n) n a.scope object key v rest c.in_ok-push.ensures.items (λ r. refl)
    c.in_ok-step.ensures.means)
