use Rattle.std.proofs.Common.{◌-◌}
use Rattle.lua_value.specs.declared.value.Value.TheVariants as values
use Rattle.lua_table.proofs.Keeping.{keeps_stored}
use Rattle.spec_machine.proofs.structs.put.Goals as goal

pub returns-in_ok-store-in-Some-clause-kept : goal.returns-in_ok-store-in-Some-clause-kept
returns-in_ok-store-in-Some-clause-kept c =
    rw c.in_ok-store-in-Some.ensures.ok (keeps_stored c.args.heap.now c.args.table (values.Number c.in-Some.key) c.args.value)
