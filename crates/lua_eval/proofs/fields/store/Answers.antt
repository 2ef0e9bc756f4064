use Rattle.std.proofs.Common.{refl, sym, ap, ◌∙◌}
use Rattle.lua_value.specs.declared.kind.Kind.{Kind}
use Rattle.lua_value.specs.declared.value.Value.{Value}
use Rattle.lua_ops.specs.declared.fault.Fault.TheVariants.{Index}
use Rattle.lua_model.specs.Plans.{fell, raise}
use Rattle.lua_model.specs.Fields.{store, store_table}
use Rattle.lua_eval.proofs.Below.{moved}
use Rattle.lua_eval.proofs.Reading.{not_stored}
use Rattle.lua_eval.proofs.fields.store.Goals as goal

pub returns-in_ok-step-in-Table-clause-means : goal.returns-in_ok-step-in-Table-clause-means
returns-in_ok-step-in-Table-clause-means c = λ items.
    let a = c.args in
    moved items a.frames.now.items c.store_table.new.frames.items (store a.object a.key a.value a.place a.outer fell)
    (store_table c.in-Table.table a.key a.value a.place a.outer fell)
    a.heap.now a.heap.now c.store_table.new.heap a.budget.now c.store_table.new.budget c.in_ok-step-in-Table.step
    (ap (λ (o : Value). store o a.key a.value a.place a.outer fell) c.in-Table.is) refl
    (c.in_ok-step-in-Table.ensures.means items)

pub returns-in_ok-step-in_default : goal.returns-in_ok-step-in_default
returns-in_ok-step-in_default c =
    let a = c.args in
    let fs = a.frames.now.items in
    record {
      means = λ items.
          moved items fs fs (store a.object a.key a.value a.place a.outer fell) (raise a.place (Index c.kind.result))
          a.heap.now a.heap.now c.raise.new.heap a.budget.now c.raise.new.budget c.in_ok-step-in_default.step
          (not_stored a.object a.key a.value a.place a.outer fell c.in_default.not-Table
          ∙ ap (λ (k : Kind). raise a.place (Index k)) (sym c.kind.ensures)) refl
          (c.in_ok-step-in_default.ensures.means items fs);
      kept = c.in_ok-step-in_default.ensures.kept;
    }
