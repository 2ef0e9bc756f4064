use Rattle.std.proofs.Common.{◌+◌, drop, sym, ap, ◌∙◌}
use Rattle.std.proofs.lemmas.List.{get_or_read}
use Rattle.lua_value.specs.declared.value.Value.{Value}
use Rattle.lua_value.specs.declared.value.Value.TheVariants.{Nil}
use Rattle.lua_table.specs.LuaState.{LuaState}
use Rattle.lua_table.specs.Heap.{with_cell}
use Rattle.lua_table.specs.Cells.{with_cells}
use Rattle.lua_table.proofs.Keeping.{keeps_cell, keeps_then}
use Rattle.lua_eval.proofs.Declaring.{cells_next}
use Rattle.lua_table.proofs.Keeping.{heap_kept_as}
use Rattle.lua_eval.proofs.cells.with_cells.Goals as goal

pub values-preserved : goal.values-preserved
values-preserved c =
    let vs = c.args.values.now in
    let i = c.values.value-index in
    let s = c.values.heap in
    let t = c.new_cell.new.self in
    let v = c.value-item.result in
    let made = c.in_ok-new_cell.ensures.ok in
    record {
      same =
          ap (λ (w : LuaState). with_cells (drop (i + 1) vs) w)
          (made ∙ ap (λ (x : Value). with_cell s x) (get_or_read vs i v c.values-test.true c.value-item.is Nil))
          ∙ sym (cells_next vs i s c.values-test.true) ∙ c.values.invariant.same;
      kept = keeps_then c.args.heap.now s t c.values.invariant.kept (heap_kept_as s t (with_cell s v) made (keeps_cell s v));
    }
