use Rattle.std.proofs.Common.{List, [], refl, sym, ap, ◌∙◌}
use Rattle.tl_tree.specs.Arena.{items_of}
use Rattle.lua_value.specs.declared.value.Value.{Value}
use Rattle.lua_table.specs.Cells.{nth_value}
use Rattle.lua_model.specs.Loops.{list_next}
use Rattle.lua_eval.proofs.Below.{moved}
use Rattle.lua_eval.proofs.lists.first_listed.Goals as goal

pub returns-clause-means : goal.returns-clause-means
returns-clause-means c =
    let a = c.args in
    let items = items_of a.tree.now in
    let vs = a.values.now in
    let f = c.nth-function.result in
    let state = c.nth-state.result in
    let control = c.nth-control.result in
    let none = c.new-none.result in
    moved items a.frames.now.items c.list_next.new.frames.items
    (list_next items a.node a.names.now a.place a.scope (nth_value vs 0) (nth_value vs 1) (nth_value vs 2) [])
    (list_next items a.node a.names.now a.place a.scope f state control none)
    a.heap.now a.heap.now c.list_next.new.heap a.budget.now c.list_next.new.budget c.in_ok-step.step
    (ap (λ (v : Value). list_next items a.node a.names.now a.place a.scope v (nth_value vs 1) (nth_value vs 2) []) (sym c.nth-function.ensures)
    ∙ ap (λ (v : Value). list_next items a.node a.names.now a.place a.scope f v (nth_value vs 2) []) (sym c.nth-state.ensures)
    ∙ ap (λ (v : Value). list_next items a.node a.names.now a.place a.scope f state v []) (sym c.nth-control.ensures)
    ∙ ap (λ (out : List Value). list_next items a.node a.names.now a.place a.scope f state control out) (sym c.new-none.ensures)) refl
    c.in_ok-step.ensures.means
