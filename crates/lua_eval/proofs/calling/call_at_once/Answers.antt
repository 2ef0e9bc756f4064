use Rattle.std.proofs.Common.{◌≡◌, arith, true, ap, ◌∙◌}
use Rattle.std.specs.Prelude.{nat_lt}
use Rattle.std.proofs.lemmas.Bool.Decides.{nat_tests}
use Rattle.tl_base.specs.declared.ids.NodeId.{NodeId}
use Rattle.tl_tree.specs.Arena.{items_of}
use Rattle.tl_tree.specs.Code.{statements_at}
use Rattle.lua_table.specs.Heap.{deeper}
use Rattle.lua_table.proofs.Keeping.{keeps_deeper, keeps_then}
use Rattle.lua_model.specs.Calls.{most_calls}
use Rattle.lua_eval.specs.Called.{called_plan}
use Rattle.lua_eval.proofs.Invoking.{call_passes}
use Rattle.lua_table.proofs.Keeping.{heap_keeps_by}
use Rattle.tl_base.proofs.Results.{if-ok, on-ok}
use Rattle.lua_eval.proofs.calling.call_at_once.Goals as goal

pub returns-clause-passes : goal.returns-clause-passes
returns-clause-passes c =
    let a = c.args in
    let items = items_of a.tree.now in
    let parts = c.function_parts-parts.result in
    let few : nat_lt a.heap.now.calls most_calls ≡ true = grind (arith, nat_tests, c.requires.few) in
    if-ok c.execute.result c.execute.ensures.passes (λ called h go.
    call_passes items (called_plan called c.execute.new.given go) a.heap.now c.enter_call.new.heap c.execute.new.heap a.budget.now c.execute.new.budget
    a.closure c.closure-code.result a.args.now a.place c.in_ok-scope.scope parts.method parts.variadic parts.names.now
    c.block_statements-list.result.now go few c.closure-code.ensures
    c.function_parts-parts.ensures.method c.function_parts-parts.ensures.names c.function_parts-parts.ensures.variadic
    (c.block_statements-list.ensures ∙ ap (λ (n : NodeId). statements_at items n) c.function_parts-parts.ensures.block)
    (rw c.begin_call.ensures at c.in_ok-scope.ensures.scope) (rw c.begin_call.ensures at c.in_ok-scope.ensures.heap)
    (h go))

pub returns-clause-kept : goal.returns-clause-kept
returns-clause-kept c =
    on-ok c.execute.result c.execute.ensures.kept (λ kept.
    heap_keeps_by c.args.heap.now c.begin_call.new.self (deeper c.args.heap.now) c.execute.new.heap
    c.begin_call.ensures (keeps_deeper c.args.heap.now)
    (keeps_then c.begin_call.new.self c.enter_call.new.heap c.execute.new.heap c.in_ok-scope.ensures.kept kept))
