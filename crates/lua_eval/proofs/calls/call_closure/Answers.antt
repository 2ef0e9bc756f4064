use Rattle.lua_table.specs.Heap.{deeper}
use Rattle.lua_table.proofs.Keeping.{keeps_deeper}
use Rattle.lua_table.proofs.Keeping.{heap_keeps_by}
use Rattle.std.proofs.Common.{sym, ap, ◌∙◌}
use Rattle.tl_base.specs.declared.ids.NodeId.{NodeId}
use Rattle.tl_tree.specs.Arena.{items_of}
use Rattle.tl_tree.specs.Code.{statements_at}
use Rattle.lua_eval.proofs.Invoking.{closure_called, closure_refused}
use Rattle.lua_eval.proofs.calls.call_closure.Goals as goal

pub returns-then-may_call-clause-means : goal.returns-then-may_call-clause-means
returns-then-may_call-clause-means c =
    let a = c.args in
    let items = items_of a.tree.now in
    let parts = c.function_parts-parts.result in
    closure_called items a.frames.now.items c.push.new.self.items c.statements.new.frames.items
    a.heap.now c.enter_call.new.heap c.enter_call.new.heap a.budget.now a.budget.now c.in_ok-entered.entered
    a.closure c.closure-code.result a.args a.place c.in_ok-scope.scope parts.method parts.variadic parts.names.now
    c.block_statements.result.now c.new-none.result
    (sym c.may_call.ensures.same ∙ c.if-may_call.true) c.new-none.ensures c.closure-code.ensures
    c.function_parts-parts.ensures.method c.function_parts-parts.ensures.names c.function_parts-parts.ensures.variadic
    (c.block_statements.ensures ∙ ap (λ (n : NodeId). statements_at items n) c.function_parts-parts.ensures.block)
    (rw (c.begin_call.ensures, c.as_slice.ensures) at c.in_ok-scope.ensures.scope) (rw (c.begin_call.ensures, c.as_slice.ensures) at c.in_ok-scope.ensures.heap)
    c.in_ok-push.ensures.items (c.in_ok-entered.ensures.means items c.enter_call.new.heap a.budget.now)

pub returns-clause-means : goal.returns-clause-means
returns-clause-means c =
    let a = c.args in
    let items = items_of a.tree.now in
    closure_refused items a.frames.now.items a.heap.now c.raise.new.heap a.budget.now c.raise.new.budget
    c.in_ok-step.step a.closure a.args a.place (sym c.may_call.ensures.same ∙ c.if-may_call.false) (c.in_ok-step.ensures.means items)

pub returns-then-may_call-clause-kept : goal.returns-then-may_call-clause-kept
returns-then-may_call-clause-kept c =
    heap_keeps_by c.args.heap.now c.begin_call.new.self (deeper c.args.heap.now) c.enter_call.new.heap
    c.begin_call.ensures (keeps_deeper c.args.heap.now) c.in_ok-scope.ensures.kept
