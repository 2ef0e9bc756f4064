use Rattle.std.proofs.Common.{sym, ap, refl, ◌∙◌, List, []}
use Rattle.tl_base.specs.declared.ids.NodeId.{NodeId}
use Rattle.tl_tree.specs.Arena.{items_of}
use Rattle.lua_value.specs.declared.value.Value.{Value}
use Rattle.lua_table.specs.Cells.{nth_value}
use Rattle.lua_model.specs.Plans.{LuaPlan, values_of}
use Rattle.lua_model.specs.Loops.{list_next, generic_plan}
use Rattle.lua_eval.proofs.Below.{moved}
use Rattle.lua_eval.proofs.statements.generic_for.Goals as goal

pub returns-clause-means : goal.returns-clause-means
returns-clause-means c =
    let a = c.args in
    let items = items_of a.tree.now in
    let names = c.as_slice-names.result.now in
    let es = c.as_slice-values.result.now in
    let none = c.new-none.result in
    let go : List Value → LuaPlan = λ vs.
    list_next items a.node names a.place a.scope (nth_value vs 0) (nth_value vs 1) (nth_value vs 2) [] in
    moved items a.frames.now.items c.begin_list.new.frames.items (generic_plan items a.node a.names.now a.values.now a.place a.scope)
    (values_of es a.scope none go) a.heap.now a.heap.now c.begin_list.new.heap a.budget.now c.begin_list.new.budget c.in_ok-step.step
    (ap (λ (l : List NodeId). generic_plan items a.node l a.values.now a.place a.scope) (sym c.as_slice-names.ensures)
    ∙ ap (λ (l : List NodeId). generic_plan items a.node names l a.place a.scope) (sym c.as_slice-values.ensures)
    ∙ ap (λ (us : List Value). values_of es a.scope us go) (sym c.new-none.ensures))
    refl c.in_ok-step.ensures.means
