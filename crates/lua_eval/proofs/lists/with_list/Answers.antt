use Rattle.std.proofs.Common.{[], List, refl, sym, ap}
use Rattle.tl_tree.specs.Arena.{items_of}
use Rattle.lua_value.specs.declared.value.Value.{Value}
use Rattle.lua_table.specs.Cells.{nth_value}
use Rattle.lua_model.specs.Loops.{list_next}
use Rattle.lua_model.specs.Plans.{LuaPlan}
use Rattle.lua_eval.proofs.Below.{moved}
use Rattle.tl_base.proofs.Results.{if-ok}
use Rattle.lua_eval.proofs.lists.with_list.Goals as goal

pub returns-in-Closure-clause-means : goal.returns-in-Closure-clause-means
returns-in-Closure-clause-means c = rw c.in-Call.is (rw c.in-Closure.is c.enter_closure.ensures.means)

pub returns-in_default : goal.returns-in_default
returns-in_default c = record {
  means = rw c.in-Call.is c.call.ensures.means;
  kept = c.call.ensures.kept;
}

pub returns-in-Assign-clause-means : goal.returns-in-Assign-clause-means
returns-in-Assign-clause-means c = rw c.in-Assign.is c.stores.ensures.means

pub returns-in-Listed-clause-means : goal.returns-in-Listed-clause-means
returns-in-Listed-clause-means c =
    let a = c.args in
    let m = c.in-Listed in
    let items = items_of a.tree.now in
    let plan : List Value → LuaPlan = λ vs. list_next items m.node m.names.now m.place a.scope
    (nth_value vs 0) (nth_value vs 1) (nth_value vs 2) [] in
    rw m.is (if-ok c.first_listed.result c.first_listed.ensures.means (λ step it.
    moved items a.frames.now.items c.first_listed.new.frames.items (plan a.values) (plan c.as_slice-values.result.now)
    a.heap.now a.heap.now c.first_listed.new.heap a.budget.now c.first_listed.new.budget step
    (ap plan (sym c.as_slice-values.ensures)) refl it))
