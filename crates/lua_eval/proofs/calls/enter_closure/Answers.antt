use Rattle.std.proofs.Common.{List, sym, ap, ◌∙◌}
use Rattle.tl_base.specs.Layer.{state}
use Rattle.tl_base.specs.Plan.{Give, run}
use Rattle.tl_tree.specs.Arena.{items_of}
use Rattle.lua_value.specs.declared.value.Value.{Value}
use Rattle.lua_model.specs.Calls.{call_closure}
use Rattle.lua_eval.specs.Called.{called_plan}
use Rattle.lua_eval.proofs.AtOnce.{passed}
use Rattle.lua_eval.proofs.Below.{jobs_of}
use Rattle.lua_eval.proofs.Invoking.{closure_refused}
use Rattle.lua_eval.proofs.Passing.{on-any}
use Rattle.tl_base.proofs.Results.{if-ok}
use Rattle.lua_eval.proofs.calls.enter_closure.Goals as goal

pub returns-then-may_call-clause-means : goal.returns-then-may_call-clause-means
returns-then-may_call-clause-means c =
    let a = c.args in
    let items = items_of a.tree.now in
    let called = c.in_ok-called.called in
    let t = c.call_at_once.new.heap in
    let mid = c.call_at_once.new.budget in
    if-ok c.called_on.result c.called_on.ensures.means (λ step it.
    passed items a.frames.now.items c.called_on.new.frames.items (call_closure items a.closure a.args a.place Give) (called_plan called c.call_at_once.new.given Give)
    a.heap.now t t a.budget.now mid mid step
    (λ later. ap (λ (vs : List Value). run (jobs_of items) (call_closure items a.closure vs a.place Give) (state a.heap.now a.budget.now) later)
    (sym c.as_slice-args.ensures) ∙ c.in_ok-called.ensures.passes Give later)
    (it items t mid))

pub returns-clause-means : goal.returns-clause-means
returns-clause-means c =
    let a = c.args in
    let items = items_of a.tree.now in
    closure_refused items a.frames.now.items a.heap.now c.raise.new.heap a.budget.now c.raise.new.budget
    c.in_ok-step.step a.closure a.args a.place (sym c.may_call.ensures.same ∙ c.if-may_call.false) (c.in_ok-step.ensures.means items)

pub returns-then-may_call-clause-kept : goal.returns-then-may_call-clause-kept
returns-then-may_call-clause-kept c = on-any c.called_on.result c.in_ok-called.ensures.kept
