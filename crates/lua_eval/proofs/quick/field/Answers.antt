use Rattle.std.proofs.Common.{sym, ap, ◌∙◌}
use Rattle.lua_value.specs.declared.value.Value.{Value}
use Rattle.lua_table.specs.Heap.{table_at}
use Rattle.lua_table.specs.Pairs.{value_in}
use Rattle.lua_eval.proofs.AtOnce.{absent_gives, if-some}
use Rattle.lua_eval.proofs.quick.field.Goals as goal

pub returns-then-is_nil : goal.returns-then-is_nil
returns-then-is_nil c =
    let a = c.args in
    let m = c.in-Table in
    let s = a.heap.now in
    if-some c.inherited.result c.inherited.ensures (λ found h. λ items place outer.
    rw m.is (absent_gives items m.table a.key c.get-value.result found.value place outer s a.left found.left
    (c.get-value.ensures ∙ ap (λ (k : Value). value_in (table_at s m.table) k) c.copy.ensures)
    (sym c.is_nil.ensures.value ∙ c.if-is_nil.true) (h items place outer)))
