use Rattle.std.proofs.Common.{◌≡◌, sym, [], ◌∷◌, refl, ap, List}
use Rattle.tl_base.specs.Plan.{Give}
use Rattle.tl_base.specs.declared.machine.Step.TheVariants.{Return}
use Rattle.tl_tree.specs.Arena.{items_of}
use Rattle.lua_value.specs.declared.value.Value.{Value}
use Rattle.lua_table.proofs.Keeping.{keeps_then}
use Rattle.lua_model.specs.declared.end.End.TheVariants.{Returned}
use Rattle.lua_model.specs.Plans.{LuaPlan, statements}
use Rattle.lua_eval.specs.AtOnce.{Becomes}
use Rattle.lua_eval.specs.Steps.{Goes}
use Rattle.lua_eval.specs.Waiting.{stop_plan}
use Rattle.lua_eval.proofs.AtOnce.{passed}
use Rattle.lua_eval.proofs.Below.{moved}
use Rattle.lua_eval.proofs.Doing.{returns as returned}
use Rattle.tl_base.proofs.Results.{if-ok, on-ok}
use Rattle.lua_eval.proofs.waiting.proceed.Goals as goal

pub returns-in-None-clause-means : goal.returns-in-None-clause-means
returns-in-None-clause-means c =
    let a = c.args in
    let items = items_of a.tree.now in
    let stop = c.in_ok-stop.stop in
    let t = c.run_calls.new.heap in
    let mid = c.run_calls.new.budget in
    let heap : c.ending.new.heap ≡ t = rw c.in-None.is at c.in_ok-given.ensures.heap in
    let budget : c.ending.new.budget ≡ mid = rw c.in-None.is at c.in_ok-given.ensures.budget in
    let fs = a.frames.now.items in
    let r = c.begin_left in
    let fs2 = r.new.frames.items in
    if-ok r.result r.ensures.means (λ step it.
    let same : Goes items fs (stop_plan stop a.scope a.out Give) t mid fs2 step r.new.heap r.new.budget = rw (heap, budget) at it in
    passed items fs fs2 (statements a.list.now a.scope a.out Give) (stop_plan stop a.scope a.out Give)
    a.heap.now t r.new.heap a.budget.now mid r.new.budget step (c.in_ok-stop.ensures.passes a.out Give) same)

pub returns-in_ok-values-in-Some-clause-means : goal.returns-in_ok-values-in-Some-clause-means
returns-in_ok-values-in-Some-clause-means c =
    let a = c.args in
    let items = items_of a.tree.now in
    let stop = c.in_ok-stop.stop in
    let t = c.run_calls.new.heap in
    let mid = c.run_calls.new.budget in
    let u = c.ending.new.heap in
    let left = c.ending.new.budget in
    let value = c.in-Some.value in
    let values = c.in_ok-values-in-Some.values in
    let fs = a.frames.now.items in
    let end = Returned values a.out in
    let plan : LuaPlan = stop_plan stop a.scope a.out Give in
    let found : Becomes items plan t mid (Give (Returned (value ∷ []) a.out)) u left =
    (rw c.in-Some.is at c.in_ok-given.ensures.found) a.out Give in
    passed items fs fs (statements a.list.now a.scope a.out Give) plan a.heap.now t u a.budget.now mid left (Return end)
    (c.in_ok-stop.ensures.passes a.out Give)
    (passed items fs fs plan (Give (Returned (value ∷ []) a.out)) t u u mid left left (Return end) found
    (moved items fs fs (Give (Returned (value ∷ []) a.out)) (Give end) u u u left left (Return end)
    (ap (λ (vs : List Value). Give (Returned vs a.out)) (sym c.in_ok-values-in-Some.ensures)) refl (returned items fs end u left)))

pub returns-in_ok-values-in-Some-clause-kept : goal.returns-in_ok-values-in-Some-clause-kept
returns-in_ok-values-in-Some-clause-kept c =
    keeps_then c.args.heap.now c.run_calls.new.heap c.ending.new.heap c.in_ok-stop.ensures.kept c.in_ok-given.ensures.kept

pub returns-in-None-clause-kept : goal.returns-in-None-clause-kept
returns-in-None-clause-kept c =
    let s = c.args.heap.now in
    let t = c.run_calls.new.heap in
    let u = c.ending.new.heap in
    on-ok c.begin_left.result c.begin_left.ensures.kept (λ kept.
    keeps_then s u c.begin_left.new.heap (keeps_then s t u c.in_ok-stop.ensures.kept c.in_ok-given.ensures.kept) kept)
