use Rattle.std.proofs.Common.{List, refl, ap, ◌∙◌, arith}
use Rattle.lua_value.specs.declared.value.Value.{Value}
use Rattle.lua_table.specs.Cells.{nth_value}
use Rattle.tl_tree.specs.Arena.{items_of}
use Rattle.tl_tree.specs.Nodes.{item_at}
use Rattle.lua_model.specs.Plans.{fell}
use Rattle.lua_model.specs.Assignments.{store_target, stores}
use Rattle.lua_eval.proofs.Below.{moved}
use Rattle.lua_eval.proofs.Listing.{stores_at}
use Rattle.lua_eval.proofs.assignments.last_store.Goals as goal

pub returns-clause-means : goal.returns-clause-means
returns-clause-means c =
    let a = c.args in
    let items = items_of a.tree.now in
    let n = c.node_in-target.result in
    let object = c.held_at-pair.result.0 in
    let key = c.held_at-pair.result.1 in
    let v = c.nth-value.result in
    moved items a.frames.now.items c.store_target.new.frames.items
    (stores items a.targets.now a.scope a.held.now a.values.now 1)
    (store_target items (item_at items n) n a.scope object key v fell) a.heap.now a.heap.now c.store_target.new.heap
    a.budget.now c.store_target.new.budget c.in_ok-step.step
    (stores_at items a.targets.now a.scope a.held.now a.values.now 1 n object key v (omega arith) c.node_in-target.ensures
    (c.held_at-pair.ensures.object ∙ ap (λ (l : List Value). nth_value l 0) c.as_slice-2.ensures)
    (c.held_at-pair.ensures.key ∙ ap (λ (l : List Value). nth_value l 1) c.as_slice-2.ensures)
    (c.nth-value.ensures ∙ ap (λ (l : List Value). nth_value l 0) c.as_slice.ensures)) refl
    c.in_ok-step.ensures.means
