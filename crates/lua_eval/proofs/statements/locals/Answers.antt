use Rattle.std.proofs.Common.{sym, ap, refl, ◌∙◌, List}
use Rattle.tl_base.specs.declared.ids.NodeId.{NodeId}
use Rattle.tl_tree.specs.Arena.{items_of}
use Rattle.lua_value.specs.declared.value.Value.{Value}
use Rattle.lua_model.specs.Statements.{local_plan}
use Rattle.lua_eval.specs.Frames.{list_plan}
use Rattle.lua_eval.proofs.Below.{moved}
use Rattle.lua_eval.specs.declared.frame.Then.TheVariants as thens
use Rattle.lua_eval.proofs.statements.locals.Goals as goal

pub returns-clause-means : goal.returns-clause-means
returns-clause-means c =
    let a = c.args in
    let items = items_of a.tree.now in
    let names = c.as_slice-names.result.now in
    let es = c.as_slice-values.result.now in
    let none = c.new-none.result in
    moved items a.frames.now.items c.begin_list.new.frames.items (local_plan a.names.now a.values.now a.scope)
    (list_plan items es a.scope none (thens.Local c.as_slice-names.result)) a.heap.now a.heap.now c.begin_list.new.heap
    a.budget.now c.begin_list.new.budget c.in_ok-step.step
    (ap (λ (l : List NodeId). local_plan l a.values.now a.scope) (sym c.as_slice-names.ensures)
    ∙ ap (λ (l : List NodeId). local_plan names l a.scope) (sym c.as_slice-values.ensures)
    ∙ ap (λ (us : List Value). list_plan items es a.scope us (thens.Local c.as_slice-names.result)) (sym c.new-none.ensures))
    refl c.in_ok-step.ensures.means
