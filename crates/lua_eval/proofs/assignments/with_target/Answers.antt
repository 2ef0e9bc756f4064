use Rattle.std.proofs.Common.{refl, sym, ap}
use Rattle.tl_tree.specs.Arena.{items_of}
use Rattle.lua_value.specs.declared.value.Value.{Value}
use Rattle.lua_model.specs.Assignments.{held}
use Rattle.lua_eval.proofs.Below.{moved}
use Rattle.lua_eval.proofs.assignments.with_target.Goals as goal

pub returns-in_ok-step-in-Key-clause-means : goal.returns-in_ok-step-in-Key-clause-means
returns-in_ok-step-in-Key-clause-means c =
    let a = c.args in
    let m = c.in-Key in
    let items = items_of a.tree.now in
    let fs = a.frames.now.items in
    let s = a.heap.now in
    let left = a.budget.now in
    rw m.is (moved items fs fs (held m.object a.value) (held c.copy.result a.value) s s s left left c.in_ok-step-in-Key.step
    (ap (λ (o : Value). held o a.value) (sym c.copy.ensures)) refl (c.in_ok-step-in-Key.ensures.means items s left fs))

pub returns-in_ok-step-in-Select-clause-means : goal.returns-in_ok-step-in-Select-clause-means
returns-in_ok-step-in-Select-clause-means c =
    rw c.in-Select.is (c.in_ok-step-in-Select.ensures.means c.args.budget.now c.args.frames.now.items)
