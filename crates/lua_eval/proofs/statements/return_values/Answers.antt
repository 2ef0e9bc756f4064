use Rattle.std.proofs.Common.{sym, ap, refl, ◌∙◌, List, []}
use Rattle.tl_base.specs.declared.ids.NodeId.{NodeId}
use Rattle.tl_base.specs.Plan.{Give}
use Rattle.tl_tree.specs.Arena.{items_of}
use Rattle.lua_value.specs.declared.value.Value.{Value}
use Rattle.lua_model.specs.Plans.{LuaPlan, values_of}
use Rattle.lua_eval.proofs.Below.{moved}
use Rattle.lua_model.specs.declared.end.End.TheVariants as ends
use Rattle.tl_base.proofs.Results.{if-ok}
use Rattle.lua_eval.proofs.statements.return_values.Goals as goal

pub returns-clause-means : goal.returns-clause-means
returns-clause-means c =
    let a = c.args in
    let items = items_of a.tree.now in
    let es = c.as_slice-values.result.now in
    let none = c.new-none.result in
    let go : List Value → LuaPlan = λ vs. Give (ends.Returned vs []) in
    if-ok c.begin_list.result c.begin_list.ensures.means (λ v it. moved items a.frames.now.items c.begin_list.new.frames.items (values_of a.values.now a.scope [] go)
    (values_of es a.scope none go) a.heap.now a.heap.now c.begin_list.new.heap a.budget.now c.begin_list.new.budget v
    (ap (λ (l : List NodeId). values_of l a.scope [] go) (sym c.as_slice-values.ensures)
    ∙ ap (λ (us : List Value). values_of es a.scope us go) (sym c.new-none.ensures))
    refl it)
