use Rattle.std.proofs.Common.{true, sym, ◌∙◌}
use Rattle.tl_base.specs.Plan.{Read, Write}
use Rattle.lua_value.specs.Values.{is_nil}
use Rattle.lua_table.specs.Heap.{with_stored}
use Rattle.lua_ops.specs.declared.fault.Fault.TheVariants.{NilKey}
use Rattle.lua_model.specs.Plans.{fell, raise}
use Rattle.lua_eval.proofs.Below.{chosen}
use Rattle.lua_eval.proofs.fields.store_raw.Goals as goal

pub returns-then-is_nil-clause-means : goal.returns-then-is_nil-clause-means
returns-then-is_nil-clause-means c = λ items fs.
    let a = c.args in
    chosen items fs fs (is_nil a.key) true (raise a.place NilKey) (Read (λ s. Write (with_stored s a.table a.key a.value) fell))
    a.heap.now c.raise.new.heap a.budget.now c.raise.new.budget c.in_ok-step.step
    (sym c.is_nil.ensures.value ∙ c.if-is_nil.true) (c.in_ok-step.ensures.means items fs)
