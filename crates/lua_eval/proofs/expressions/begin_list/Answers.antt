use Rattle.std.proofs.Common.{List, ◌∷◌, sym, ap}
use Rattle.tl_base.specs.declared.ids.NodeId.{NodeId}
use Rattle.tl_tree.specs.Arena.{items_of}
use Rattle.lua_eval.specs.Frames.{list_plan, then_plan}
use Rattle.lua_eval.proofs.AtOnce.{passed}
use Rattle.lua_eval.proofs.Below.{moved}
use Rattle.lua_eval.proofs.Entering.{item_below}
use Rattle.lua_eval.proofs.Listing.{none_is}
use Rattle.tl_base.proofs.Results.{if-ok}
use Rattle.lua_eval.proofs.expressions.begin_list.Goals as goal

pub returns-in-None-clause-means : goal.returns-in-None-clause-means
returns-in-None-clause-means c =
    let a = c.args in
    let items = items_of a.tree.now in
    let fs = a.frames.now.items in
    let fs2 = c.with_list.new.frames.items in
    let rest = c.in_ok-rest.rest.now in
    let all = c.values_at_once.new.values in
    let s = a.heap.now in
    let t = c.values_at_once.new.heap in
    let s2 = c.with_list.new.heap in
    let mid = c.values_at_once.new.budget in
    let left2 = c.with_list.new.budget in
    if-ok c.with_list.result c.with_list.ensures.means (λ step it.
    passed items fs fs2 (list_plan items a.nodes.now a.scope a.values a.then) (list_plan items rest a.scope all a.then) s s s2
    a.budget.now mid left2 step (c.in_ok-rest.ensures.passes (λ vs. then_plan items a.then a.scope vs))
    (moved items fs fs2 (list_plan items rest a.scope all a.then) (then_plan items a.then a.scope all) s t s2 mid left2 step
    (ap (λ (ns : List NodeId). list_plan items ns a.scope all a.then) (none_is rest c.in-None.ensures.cases)) (sym c.in_ok-rest.ensures.same)
    it))

pub returns-in_ok-push_item-in-Some-clause-means : goal.returns-in_ok-push_item-in-Some-clause-means
returns-in_ok-push_item-in-Some-clause-means c =
    let a = c.args in
    let items = items_of a.tree.now in
    let fs = a.frames.now.items in
    let pushed = c.push_item.new.frames.items in
    let fs2 = c.inside.new.frames.items in
    let rest = c.in_ok-rest.rest.now in
    let all = c.values_at_once.new.values in
    let s = a.heap.now in
    let t = c.values_at_once.new.heap in
    let s2 = c.inside.new.heap in
    let mid = c.values_at_once.new.budget in
    let left2 = c.inside.new.budget in
    let n = c.in-Some.first.now in
    let ns = c.in-Some.behind.now in
    let waits = c.in_ok-push_item-in-Some.ensures in
    if-ok c.inside.result c.inside.ensures.means (λ step it.
    passed items fs fs2 (list_plan items a.nodes.now a.scope a.values a.then) (list_plan items rest a.scope all a.then) s s s2
    a.budget.now mid left2 step (c.in_ok-rest.ensures.passes (λ vs. then_plan items a.then a.scope vs))
    (moved items fs fs2 (list_plan items rest a.scope all a.then) (list_plan items (n ∷ ns) a.scope all a.then) s t s2 mid left2 step
    (ap (λ (l : List NodeId). list_plan items l a.scope all a.then) c.in-Some.ensures.cases.0) (sym c.in_ok-rest.ensures.same)
    (item_below items fs pushed fs2 waits.0 n ns a.scope all a.then t s2 mid left2 step waits.1 (λ r. waits.2 items r) it)))
