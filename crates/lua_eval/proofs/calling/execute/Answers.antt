use Rattle.std.proofs.Common.{◌≡◌, sym, [], ◌∷◌, ap, ◌∙◌}
use Rattle.tl_base.specs.Layer.{state}
use Rattle.tl_base.specs.Plan.{run}
use Rattle.tl_tree.specs.Arena.{items_of}
use Rattle.lua_table.specs.Heap.{shallower}
use Rattle.lua_table.specs.LuaState.{LuaState}
use Rattle.lua_table.proofs.Keeping.{keeps_shallower, keeps_then}
use Rattle.lua_model.specs.declared.end.End.{End}
use Rattle.lua_model.specs.declared.end.End.TheVariants.{Many, Returned}
use Rattle.lua_model.specs.Calls.{leave, returned}
use Rattle.lua_model.specs.Plans.{LuaPlan}
use Rattle.lua_eval.specs.AtOnce.{Becomes}
use Rattle.lua_eval.specs.Running.{halt_plan}
use Rattle.lua_eval.proofs.Below.{jobs_of}
use Rattle.lua_table.proofs.Keeping.{heap_kept_as}
use Rattle.lua_eval.proofs.calling.execute.Goals as goal

pub returns-then-ended-clause-passes : goal.returns-then-ended-clause-passes
returns-then-ended-clause-passes c = λ go later.
    let a = c.args in
    let items = items_of a.tree.now in
    let t = c.run.new.heap in
    let mid = c.run.new.budget in
    let k : End → LuaPlan = λ r. leave (returned r) go in
    c.in_ok-halt.ensures.passes [] k later
    ∙ ap (λ (p : LuaPlan). run (jobs_of items) p (state t mid) later) (c.ended.ensures c.if-ended.true a.scope [] k)
    ∙ ap (λ (w : LuaState). run (jobs_of items) (go (Many [])) (state w mid) later) (sym c.end_call.ensures)

pub returns-in-Some-clause-passes : goal.returns-in-Some-clause-passes
returns-in-Some-clause-passes c = λ go later.
    let a = c.args in
    let items = items_of a.tree.now in
    let left = c.ending.new.budget in
    let value = c.in-Some.value in
    let k : End → LuaPlan = λ r. leave (returned r) go in
    let h : Becomes items (halt_plan c.in_ok-halt.halt a.scope [] k) c.run.new.heap c.run.new.budget (k (Returned (value ∷ []) []))
    c.ending.new.heap left =
    (rw c.in-Some.is at c.in_ok-found.ensures.found) [] k in
    c.in_ok-halt.ensures.passes [] k later
    ∙ h later
    ∙ ap (λ (w : LuaState). run (jobs_of items) (go (Many (value ∷ []))) (state w left) later) (sym c.end_call-in-Some.ensures)

pub returns-in-None-clause-passes : goal.returns-in-None-clause-passes
returns-in-None-clause-passes c = λ go later.
    let k : End → LuaPlan = λ r. leave (returned r) go in
    let heap : c.ending.new.heap ≡ c.run.new.heap = rw c.in-None.is at c.in_ok-found.ensures.heap in
    let left : c.ending.new.budget ≡ c.run.new.budget = rw c.in-None.is at c.in_ok-found.ensures.budget in
    rw heap (rw left (c.in_ok-halt.ensures.passes [] k later))

pub returns-then-ended-clause-kept : goal.returns-then-ended-clause-kept
returns-then-ended-clause-kept c =
    let t = c.run.new.heap in
    let u = c.end_call.new.self in
    keeps_then c.args.heap.now t u c.in_ok-halt.ensures.kept (heap_kept_as t u (shallower t) c.end_call.ensures (keeps_shallower t))

pub returns-in-Some-clause-kept : goal.returns-in-Some-clause-kept
returns-in-Some-clause-kept c =
    let s = c.args.heap.now in
    let t = c.run.new.heap in
    let u = c.ending.new.heap in
    let w = c.end_call-in-Some.new.self in
    keeps_then s u w (keeps_then s t u c.in_ok-halt.ensures.kept c.in_ok-found.ensures.kept)
    (heap_kept_as u w (shallower u) c.end_call-in-Some.ensures (keeps_shallower u))

pub returns-in-None-clause-kept : goal.returns-in-None-clause-kept
returns-in-None-clause-kept c =
    keeps_then c.args.heap.now c.run.new.heap c.ending.new.heap c.in_ok-halt.ensures.kept c.in_ok-found.ensures.kept
