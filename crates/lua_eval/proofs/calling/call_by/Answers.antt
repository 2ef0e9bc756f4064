use Rattle.std.proofs.Common.{arith, List, sym, ap, ◌∙◌}
use Rattle.tl_base.specs.Layer.{state}
use Rattle.tl_base.specs.Plan.{Give, run}
use Rattle.tl_tree.specs.Arena.{items_of}
use Rattle.lua_value.specs.declared.value.Value.{Value}
use Rattle.lua_table.proofs.Keeping.{keeps_itself}
use Rattle.lua_model.specs.Calls.{call_closure}
use Rattle.lua_eval.specs.AtOnce.{Becomes}
use Rattle.lua_eval.specs.Called.{called_plan}
use Rattle.lua_eval.proofs.Below.{jobs_of}
use Rattle.lua_table.proofs.Keeping.{heap_keeps_by}
use Rattle.lua_eval.proofs.calling.call_by.Goals as goal

pub spend-requires : goal.spend-requires
spend-requires c = omega (arith, rw c.in-Some.is at c.in_ok-ready.ensures.within, c.requires.units)

pub returns-then-may_call-clause-passes : goal.returns-then-may_call-clause-passes
returns-then-may_call-clause-passes c = λ later.
    let a = c.args in
    let items = items_of a.tree.now in
    let s = a.heap.now in
    let prepared = c.in-Some.prepared in
    let called = c.in_ok-called-in-Some.called in
    let t = c.call_at_once.new.heap in
    let mid = c.call_at_once.new.budget in
    let vs = c.as_slice-args.result.now in
    let h : Becomes items (call_closure items prepared.closure vs a.place Give) s prepared.left
    (called_plan called c.call_at_once.new.given Give) t mid =
    rw (c.in_ok-ready.ensures.same, c.spend.ensures) at (c.in_ok-called-in-Some.ensures.passes Give) in
    (rw c.in-Some.is at c.in_ok-ready.ensures.passes) a.place later
    ∙ ap (λ (us : List Value). run (jobs_of items) (call_closure items prepared.closure us a.place Give) (state s prepared.left) later)
    (sym c.as_slice-args.ensures)
    ∙ h later

pub returns-then-may_call-clause-kept : goal.returns-then-may_call-clause-kept
returns-then-may_call-clause-kept c =
    let s = c.args.heap.now in
    heap_keeps_by s c.prepare.new.heap s c.call_at_once.new.heap c.in_ok-ready.ensures.same (keeps_itself s) c.in_ok-called-in-Some.ensures.kept
