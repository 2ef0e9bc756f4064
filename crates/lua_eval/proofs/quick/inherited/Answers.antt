use Rattle.std.proofs.Common.{arith, sym, ◌∙◌}
use Rattle.std.specs.Prelude.{codes}
use Rattle.lua_table.specs.Metatables.{handler_at}
use Rattle.lua_eval.proofs.AtOnce.{inherited_gives}
use Rattle.lua_eval.proofs.quick.inherited.Goals as goal

pub returns-else-is_nil : goal.returns-else-is_nil
returns-else-is_nil c = λ items place outer.
    let a = c.args in
    inherited_gives items a.table c.in-Table.parent a.key c.get-value.result (handler_at a.heap.now a.table (codes "__index")) place outer
    a.heap.now a.left (sym c.in-Table.ensures) (omega (arith, c.if-left-eq0.false)) c.get-value.ensures
    (sym c.is_nil.ensures.value ∙ c.if-is_nil.false)
