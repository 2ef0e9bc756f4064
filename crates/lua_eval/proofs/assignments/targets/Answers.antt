use Rattle.std.proofs.Common.{sym, ap, ◌∙◌, List, [], ◌∷◌, length}
use Rattle.tl_base.specs.declared.ids.NodeId.{NodeId}
use Rattle.tl_tree.specs.Arena.{items_of}
use Rattle.lua_value.specs.declared.value.Value.{Value}
use Rattle.lua_table.proofs.Keeping.{keeps_itself}
use Rattle.lua_model.specs.Plans.{LuaPlan, values_of}
use Rattle.lua_model.specs.Assignments.{stores}
use Rattle.lua_eval.specs.Frames.{targets_plan}
use Rattle.lua_eval.proofs.AtOnce.{passed}
use Rattle.lua_eval.proofs.Below.{moved}
use Rattle.lua_eval.proofs.Listing.{none_is}
use Rattle.lua_eval.proofs.assignments.targets.Goals as goal

pub returns-in_ok-step-in-None-clause-means : goal.returns-in_ok-step-in-None-clause-means
returns-in_ok-step-in-None-clause-means c =
    let a = c.args in
    let items = items_of a.tree.now in
    let fs = a.frames.now.items in
    let fs2 = c.begin_list.new.frames.items in
    let ns = a.all.now in
    let es = a.values.now in
    let s = a.heap.now in
    let rest = c.in_ok-rest.rest.now in
    let held = c.targets_at_once.new.held in
    let mid = c.targets_at_once.new.budget in
    let none = c.new-none.result in
    let go : List Value → LuaPlan = λ vs. stores items ns a.scope held vs (length ns) in
    let step = c.in_ok-step-in-None.step in
    passed items fs fs2 (targets_plan items a.rest.now ns es a.scope a.held) (targets_plan items rest ns es a.scope held)
    s s c.begin_list.new.heap a.budget.now mid c.begin_list.new.budget step
    (c.in_ok-rest.ensures.passes (λ us. values_of es a.scope [] (λ vs. stores items ns a.scope us vs (length ns))))
    (moved items fs fs2 (targets_plan items rest ns es a.scope held) (values_of es a.scope none go)
    s c.targets_at_once.new.heap c.begin_list.new.heap mid c.begin_list.new.budget step
    (ap (λ (l : List NodeId). targets_plan items l ns es a.scope held) (none_is rest c.in-None.ensures.cases)
    ∙ ap (λ (us : List Value). values_of es a.scope us go) (sym c.new-none.ensures)) (sym c.in_ok-rest.ensures.same)
    c.in_ok-step-in-None.ensures.means)

pub returns-in_ok-entered-in-Some-clause-means : goal.returns-in_ok-entered-in-Some-clause-means
returns-in_ok-entered-in-Some-clause-means c =
    let a = c.args in
    let items = items_of a.tree.now in
    let fs = a.frames.now.items in
    let fs2 = c.enter_target.new.frames.items in
    let ns = a.all.now in
    let es = a.values.now in
    let s = a.heap.now in
    let t = c.targets_at_once.new.heap in
    let rest = c.in_ok-rest.rest.now in
    let held = c.targets_at_once.new.held in
    let mid = c.targets_at_once.new.budget in
    let behind = c.in-Some.behind.now in
    let step = c.in_ok-entered-in-Some.entered in
    passed items fs fs2 (targets_plan items a.rest.now ns es a.scope a.held) (targets_plan items rest ns es a.scope held)
    s s t a.budget.now mid mid step
    (c.in_ok-rest.ensures.passes (λ us. values_of es a.scope [] (λ vs. stores items ns a.scope us vs (length ns))))
    (moved items fs fs2 (targets_plan items rest ns es a.scope held) (targets_plan items (c.in-Some.first.now ∷ behind) ns es a.scope held)
    s t t mid mid step (ap (λ (l : List NodeId). targets_plan items l ns es a.scope held) c.in-Some.ensures.cases.0)
    (sym c.in_ok-rest.ensures.same) (c.in_ok-entered-in-Some.ensures.means items t mid))

pub returns-in_ok-entered-in-Some-clause-kept : goal.returns-in_ok-entered-in-Some-clause-kept
returns-in_ok-entered-in-Some-clause-kept c = rw c.in_ok-rest.ensures.same (keeps_itself c.args.heap.now)
