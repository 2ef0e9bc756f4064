use Rattle.std.proofs.Common.{◌+◌, drop, sym, ap, ◌∙◌}
use Rattle.std.proofs.lemmas.List.{get_or_read}
use Rattle.lua_value.specs.Values.{is_nil}
use Rattle.lua_value.specs.declared.value.Value.{Value}
use Rattle.lua_value.specs.declared.value.Value.TheVariants.{Nil}
use Rattle.lua_table.specs.LuaState.{LuaState}
use Rattle.lua_table.specs.Heap.{with_stored}
use Rattle.lua_table.proofs.Keeping.{keeps_stored, keeps_then}
use Rattle.lua_model.specs.Plans.{whole}
use Rattle.lua_model.specs.Tables.{with_values}
use Rattle.lua_table.proofs.Keeping.{heap_kept_as}
use Rattle.lua_eval.proofs.Numbering.{nil_is_past, stored_past, stored_next}
use Rattle.lua_eval.proofs.tables.store_values.Goals as goal

pub returns-then-is_nil-clause-ok : goal.returns-then-is_nil-clause-ok
returns-then-is_nil-clause-ok c =
    let a = c.args in
    let at = c.values.at in
    let past = nil_is_past at (ap is_nil (sym c.whole-key.ensures) ∙ sym c.is_nil.ensures.value ∙ c.if-is_nil.true) in
    sym (stored_past a.table at (drop c.values.value-index a.values.now) c.values.heap past) ∙ c.values.invariant.same

pub values-preserved : goal.values-preserved
values-preserved c =
    let a = c.args in
    let vs = a.values.now in
    let i = c.values.value-index in
    let at = c.values.at in
    let s = c.values.heap in
    let t = c.store.new.self in
    let key = c.whole-key.result in
    let v = c.value-item.result in
    let stored = c.in_ok-store.ensures.ok in
    let full = ap is_nil (sym c.whole-key.ensures) ∙ sym c.is_nil.ensures.value ∙ c.if-is_nil.false in
    record {
      same =
          ap (λ (w : LuaState). with_values a.table (at + 1) (drop (i + 1) vs) w)
          (stored ∙ ap (λ (k : Value). with_stored s a.table k v) c.whole-key.ensures
          ∙ ap (λ (x : Value). with_stored s a.table (whole at) x) (get_or_read vs i v c.values-test.true c.value-item.is Nil))
          ∙ sym (stored_next a.table at i vs s c.values-test.true full) ∙ c.values.invariant.same;
      kept = keeps_then a.heap.now s t c.values.invariant.kept (heap_kept_as s t (with_stored s a.table key v) stored (keeps_stored s a.table key v));
    }
