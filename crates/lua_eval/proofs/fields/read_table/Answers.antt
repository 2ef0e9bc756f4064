use Rattle.std.proofs.Common.{sym, ap, ◌∙◌}
use Rattle.lua_table.specs.Heap.{table_at}
use Rattle.lua_table.specs.Pairs.{value_in}
use Rattle.lua_value.specs.Values.{is_nil}
use Rattle.lua_value.specs.declared.value.Value.{Value}
use Rattle.lua_eval.proofs.Reading.{absent_read}
use Rattle.lua_eval.proofs.fields.read_table.Goals as goal

pub returns-clause-means : goal.returns-clause-means
returns-clause-means c = λ items.
    let a = c.args in
    absent_read items a.frames.now.items c.read_by.new.frames.items a.table a.key c.handler_of-handler.result a.place a.outer
    a.heap.now c.read_by.new.heap a.budget.now c.read_by.new.budget c.in_ok-step.step
    (ap (λ (k : Value). is_nil (value_in (table_at a.heap.now a.table) k)) (sym c.copy.ensures)
    ∙ ap is_nil (sym c.get-value.ensures) ∙ sym c.is_nil.ensures.value ∙ c.if-not-is_nil.false)
    c.handler_of-handler.ensures (c.in_ok-step.ensures.means items)
