use Rattle.std.proofs.Common.{List, ◌++◌, refl, sym, ap, ◌∙◌}
use Rattle.tl_tree.specs.Arena.{items_of}
use Rattle.lua_value.specs.declared.value.Value.{Value}
use Rattle.lua_model.specs.Plans.{LuaPlan, fell}
use Rattle.lua_eval.specs.Frames.{then_plan, targets_plan}
use Rattle.lua_eval.specs.Waits.{waited}
use Rattle.lua_model.specs.Loops.{listed}
use Rattle.lua_eval.proofs.Below.{moved}
use Rattle.tl_base.proofs.Results.{if-ok}
use Rattle.lua_eval.proofs.machine.with_all.Goals as goal

pub returns-in-Listed-clause-means : goal.returns-in-Listed-clause-means
returns-in-Listed-clause-means c =
    let a = c.args in
    let m = c.in-Listed in
    let items = items_of a.tree.now in
    let fs = a.frames.now.items in
    let go : List Value → LuaPlan = λ vs. listed m.node m.names.now m.scope m.function m.state vs m.out in
    rw m.is (if-ok c.listed.result c.listed.ensures.means (λ v it. moved items fs fs (go a.more) (go c.as_slice-in-Listed.result.now) a.heap.now a.heap.now c.listed.new.heap
    a.budget.now a.budget.now v (ap go (sym c.as_slice-in-Listed.ensures)) refl
    (it items a.budget.now fs)))

pub returns-clause-means : goal.returns-clause-means
returns-clause-means c =
    let a = c.args in
    let m = c.in-Wait in
    let items = items_of a.tree.now in
    let fs = a.frames.now.items in
    let go : List Value → LuaPlan = λ vs. waited m.wait m.scope vs fell in
    rw m.is (if-ok c.take_all.result c.take_all.ensures.means (λ v it. moved items fs fs (go a.more) (go c.as_slice-in-Wait.result.now)
    a.heap.now a.heap.now c.take_all.new.heap a.budget.now a.budget.now v (ap go (sym c.as_slice-in-Wait.ensures)) refl
    (it items a.budget.now fs)))

pub returns-in-Last-clause-means : goal.returns-in-Last-clause-means
returns-in-Last-clause-means c =
    let a = c.args in
    let f = c.in-Last.frame in
    let items = items_of a.tree.now in
    let next = c.with_list in
    let plan : List Value → LuaPlan = λ vs. then_plan items f.then f.scope vs in
    rw c.in-Last.is (if-ok next.result next.ensures.means (λ v it.
    moved items a.frames.now.items next.new.frames.items (plan (f.values ++ a.more)) (plan c.push_all.new.self)
    a.heap.now a.heap.now next.new.heap a.budget.now next.new.budget v
    (ap plan (sym (c.in_ok-push_all-in-Last.ensures.ok ∙ ap (λ (vs : List Value). f.values ++ vs) c.as_slice.ensures))) refl it))

pub returns-in-Target-clause-means : goal.returns-in-Target-clause-means
returns-in-Target-clause-means c =
    let a = c.args in
    let m = c.in-Target in
    let items = items_of a.tree.now in
    let next = c.targets in
    let plan : List Value → LuaPlan = λ us. targets_plan items m.rest.now m.all.now m.values.now m.scope us in
    rw m.is (if-ok next.result next.ensures.means (λ v it.
    moved items a.frames.now.items next.new.frames.items (plan (m.before ++ a.more)) (plan c.push_all-in-Target.new.self)
    a.heap.now a.heap.now next.new.heap a.budget.now next.new.budget v
    (ap plan (sym (c.in_ok-push_all-in-Target.ensures.ok ∙ ap (λ (vs : List Value). m.before ++ vs) c.as_slice-in-Target.ensures))) refl it))

pub returns-in-Stores-clause-means : goal.returns-in-Stores-clause-means
returns-in-Stores-clause-means c = rw c.in-Stores.is c.stores.ensures.means

pub returns-in-Name-clause-means : goal.returns-in-Name-clause-means
returns-in-Name-clause-means c = rw c.in-Name.is c.define_name.ensures.means
