use Rattle.std.proofs.Common.{List, ◌∷◌, sym, ap}
use Rattle.tl_base.specs.declared.ids.NodeId.{NodeId}
use Rattle.tl_tree.specs.Arena.{items_of}
use Rattle.lua_table.proofs.Keeping.{keeps_itself}
use Rattle.lua_eval.specs.Frames.{list_plan, then_plan}
use Rattle.lua_eval.proofs.AtOnce.{passed}
use Rattle.lua_eval.proofs.Below.{moved}
use Rattle.lua_eval.proofs.Listing.{none_is}
use Rattle.lua_eval.proofs.Passing.{on-any}
use Rattle.tl_base.proofs.Results.{if-ok}
use Rattle.lua_eval.proofs.lists.list.Goals as goal

pub returns-in-None-clause-means : goal.returns-in-None-clause-means
returns-in-None-clause-means c =
    let a = c.args in
    let items = items_of a.tree.now in
    let rest = c.in_ok-rest.rest.now in
    let all = c.values_at_once.new.values in
    let heap = c.values_at_once.new.heap in
    let left = c.values_at_once.new.budget in
    if-ok c.with_list.result c.with_list.ensures.means (λ v it. passed items a.frames.now.items c.with_list.new.frames.items (list_plan items a.nodes.now a.scope a.values a.then)
    (list_plan items rest a.scope all a.then) a.heap.now a.heap.now c.with_list.new.heap a.budget.now left c.with_list.new.budget
    v
    (c.in_ok-rest.ensures.passes (λ vs. then_plan items a.then a.scope vs))
    (moved items a.frames.now.items c.with_list.new.frames.items (list_plan items rest a.scope all a.then)
    (then_plan items a.then a.scope all) a.heap.now heap c.with_list.new.heap left c.with_list.new.budget
    v
    (ap (λ (ns : List NodeId). list_plan items ns a.scope all a.then) (none_is rest c.in-None.ensures.cases)) (sym c.in_ok-rest.ensures.same)
    it))

pub returns-in-Some-clause-means : goal.returns-in-Some-clause-means
returns-in-Some-clause-means c =
    let a = c.args in
    let items = items_of a.tree.now in
    let rest = c.in_ok-rest.rest.now in
    let all = c.values_at_once.new.values in
    let heap = c.values_at_once.new.heap in
    let left = c.values_at_once.new.budget in
    let n = c.in-Some.first.now in
    let behind = c.in-Some.behind in
    if-ok c.item.result c.item.ensures.means (λ v it. passed items a.frames.now.items c.item.new.frames.items (list_plan items a.nodes.now a.scope a.values a.then)
    (list_plan items rest a.scope all a.then) a.heap.now a.heap.now heap a.budget.now left left
    v
    (c.in_ok-rest.ensures.passes (λ vs. then_plan items a.then a.scope vs))
    (moved items a.frames.now.items c.item.new.frames.items (list_plan items rest a.scope all a.then)
    (list_plan items (n ∷ behind.now) a.scope all a.then) a.heap.now heap heap left left
    v
    (ap (λ (ns : List NodeId). list_plan items ns a.scope all a.then) c.in-Some.ensures.cases.0) (sym c.in_ok-rest.ensures.same)
    (it items heap left)))

pub returns-in-Some-clause-kept : goal.returns-in-Some-clause-kept
returns-in-Some-clause-kept c = on-any c.item.result (rw c.in_ok-rest.ensures.same (keeps_itself c.args.heap.now))
