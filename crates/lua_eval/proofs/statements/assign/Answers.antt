use Rattle.std.proofs.Common.{sym, ap, refl, ◌∙◌, List}
use Rattle.tl_base.specs.declared.ids.NodeId.{NodeId}
use Rattle.tl_tree.specs.Arena.{items_of}
use Rattle.lua_value.specs.declared.value.Value.{Value}
use Rattle.lua_model.specs.Assignments.{assign_plan}
use Rattle.lua_eval.specs.Frames.{targets_plan}
use Rattle.lua_eval.proofs.Below.{moved}
use Rattle.tl_base.proofs.Results.{if-ok}
use Rattle.lua_eval.proofs.statements.assign.Goals as goal

pub returns-clause-means : goal.returns-clause-means
returns-clause-means c =
    let a = c.args in
    let items = items_of a.tree.now in
    let ns = c.as_slice-all.result.now in
    let es = c.as_slice-values.result.now in
    let none = c.new-none.result in
    if-ok c.targets.result c.targets.ensures.means (λ v it. moved items a.frames.now.items c.targets.new.frames.items (assign_plan items a.all.now a.values.now a.scope)
    (targets_plan items ns ns es a.scope none) a.heap.now a.heap.now c.targets.new.heap a.budget.now c.targets.new.budget
    v
    (ap (λ (l : List NodeId). assign_plan items l a.values.now a.scope) (sym c.as_slice-all.ensures)
    ∙ ap (λ (l : List NodeId). assign_plan items ns l a.scope) (sym c.as_slice-values.ensures)
    ∙ ap (λ (us : List Value). targets_plan items ns ns es a.scope us) (sym c.new-none.ensures))
    refl it)
