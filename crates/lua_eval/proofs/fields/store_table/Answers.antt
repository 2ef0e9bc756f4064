use Rattle.std.proofs.Common.{sym, ap, ◌∙◌}
use Rattle.lua_table.specs.Heap.{table_at}
use Rattle.lua_table.specs.Pairs.{value_in}
use Rattle.lua_value.specs.Values.{is_nil}
use Rattle.lua_value.specs.declared.value.Value.{Value}
use Rattle.lua_eval.proofs.Reading.{absent_store, present_store}
use Rattle.lua_eval.proofs.fields.store_table.Goals as goal

pub returns-in_ok-step-clause-means : goal.returns-in_ok-step-clause-means
returns-in_ok-step-clause-means c = λ items.
    let a = c.args in
    absent_store items a.frames.now.items c.store_by.new.frames.items a.table a.key a.value c.handler_of-handler.result a.place a.outer
    a.heap.now c.store_by.new.heap a.budget.now c.store_by.new.budget c.in_ok-step.step
    (ap (λ (k : Value). is_nil (value_in (table_at a.heap.now a.table) k)) (sym c.copy.ensures)
    ∙ ap is_nil (sym c.get.ensures) ∙ sym c.is_nil.ensures.value ∙ c.if-is_nil.true)
    c.handler_of-handler.ensures (c.in_ok-step.ensures.means items)

pub returns-in_ok-step-2-clause-means : goal.returns-in_ok-step-2-clause-means
returns-in_ok-step-2-clause-means c = λ items.
    let a = c.args in
    let fs = a.frames.now.items in
    present_store items fs fs a.table a.key a.value a.place a.outer
    a.heap.now c.store_raw.new.heap a.budget.now c.store_raw.new.budget c.in_ok-step-2.step
    (ap (λ (k : Value). is_nil (value_in (table_at a.heap.now a.table) k)) (sym c.copy.ensures)
    ∙ ap is_nil (sym c.get.ensures) ∙ sym c.is_nil.ensures.value ∙ c.if-is_nil.false)
    (c.in_ok-step-2.ensures.means items fs)
