use Rattle.std.proofs.Common.{ℤ, refl, sym, ap, ◌∙◌, Option}
use Rattle.std.specs.Prelude.{◌+ℤ◌}
use Rattle.tl_tree.specs.Arena.{items_of}
use Rattle.lua_value.specs.Numbers.{number_from}
use Rattle.lua_model.specs.Plans.{LuaPlan}
use Rattle.lua_value.specs.declared.value.Value.{Value}
use Rattle.lua_model.specs.Loops.{count_from, list_next}
use Rattle.lua_eval.proofs.Below.{moved}
use Rattle.tl_base.proofs.Results.{if-ok}
use Rattle.lua_eval.proofs.loops.next_turn.Goals as goal

pub returns-in-While-clause-means : goal.returns-in-While-clause-means
returns-in-While-clause-means c =
    rw c.in-While.is (if-ok c.while_test.result c.while_test.ensures.means (λ v it. it (items_of c.args.tree.now) c.args.heap.now c.args.budget.now))

pub returns-in-Repeat-clause-means : goal.returns-in-Repeat-clause-means
returns-in-Repeat-clause-means c =
    rw c.in-Repeat.is (if-ok c.repeat_test.result c.repeat_test.ensures.means (λ v it. it (items_of c.args.tree.now) c.args.heap.now c.args.budget.now))

pub returns-in-Counted-clause-means : goal.returns-in-Counted-clause-means
returns-in-Counted-clause-means c =
    let a = c.args in
    let m = c.in-Counted in
    let items = items_of a.tree.now in
    let fs = a.frames.now.items in
    let s = a.heap.now in
    let left = a.budget.now in
    let plan : Option ℤ → LuaPlan = λ next. count_from a.node a.scope next m.limit m.step a.out in
    rw m.is (moved items fs fs (plan (number_from (m.at +ℤ m.step))) (plan c.following-next.result) s s s left left
    c.count_from.result (ap plan (sym c.following-next.ensures)) refl (c.count_from.ensures items s left fs))

pub returns-in-Listed-clause-means : goal.returns-in-Listed-clause-means
returns-in-Listed-clause-means c =
    let a = c.args in
    let m = c.in-Listed in
    let items = items_of a.tree.now in
    let function = c.copy-function.result in
    let state = c.copy-state.result in
    let control = c.copy-control.result in
    let plan : Value → Value → Value → LuaPlan = λ f t v. list_next items a.node m.names.now m.place a.scope f t v a.out in
    rw m.is (if-ok c.list_next.result c.list_next.ensures.means (λ step it.
    moved items a.frames.now.items c.list_next.new.frames.items (plan m.function m.state m.control) (plan function state control)
    a.heap.now a.heap.now c.list_next.new.heap a.budget.now c.list_next.new.budget step
    (ap (λ (v : Value). plan v m.state m.control) (sym c.copy-function.ensures)
    ∙ ap (λ (v : Value). plan function v m.control) (sym c.copy-state.ensures)
    ∙ ap (λ (v : Value). plan function state v) (sym c.copy-control.ensures)) refl it))
