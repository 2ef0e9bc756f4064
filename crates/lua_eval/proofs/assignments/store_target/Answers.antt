use Rattle.std.proofs.Common.{◌≡◌, refl, sym, ap, ◌∙◌}
use Rattle.tl_tree.specs.Arena.{items_of}
use Rattle.tl_tree.specs.Item.{Item}
use Rattle.tl_tree.specs.Item as kept
use Rattle.tl_tree.specs.Nodes.{item_at, item_of}
use Rattle.lua_model.specs.Plans.{fell}
use Rattle.lua_model.specs.Fields.{store}
use Rattle.lua_model.specs.Assignments.{store_target}
use Rattle.lua_eval.proofs.Below.{moved}
use Rattle.lua_eval.proofs.assignments.store_target.Goals as goal

pub returns-in_ok-step-in-Expression-clause-means : goal.returns-in_ok-step-in-Expression-clause-means
returns-in_ok-step-in-Expression-clause-means c =
    let a = c.args in
    let m = c.in-Expression in
    let items = items_of a.tree.now in
    let e : item_at items a.target ≡ kept.Expression m.place m.field-1 = sym c.node.ensures ∙ ap item_of m.is in
    moved items a.frames.now.items c.store.new.frames.items
    (store_target items (item_at items a.target) a.target a.scope a.object a.key a.value fell)
    (store a.object a.key a.value m.place a.scope.call fell) a.heap.now a.heap.now c.store.new.heap a.budget.now c.store.new.budget
    c.in_ok-step-in-Expression.step
    (ap (λ (i : Item). store_target items i a.target a.scope a.object a.key a.value fell) e) refl
    (c.in_ok-step-in-Expression.ensures.means items)
