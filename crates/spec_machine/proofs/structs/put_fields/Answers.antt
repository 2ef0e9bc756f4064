use Rattle.std.proofs.Common.{◌-◌}
use Rattle.lua_value.specs.declared.value.Value.TheVariants as values
use Rattle.lua_table.proofs.Keeping.{keeps_table, keeps_stored}
use Rattle.lua_table.proofs.Keeping.{keeps_then as heap_then}
use Rattle.spec_machine.proofs.structs.put_fields.Goals as goal

pub returns-clause-kept : goal.returns-clause-kept
returns-clause-kept c =
    let s = c.args.heap.now in
    let s1 = c.new_table.new.self in
    let s2 = c.store.new.self in
    let s3 = c.store-2.new.self in
    let entry = c.in_ok-entry.entry in
    heap_then s s1 c.put.new.heap (rw c.in_ok-entry.ensures.ok (keeps_table s))
    (heap_then s1 s2 c.put.new.heap (rw c.in_ok-store.ensures.ok (keeps_stored s1 entry (values.Text c.args.field) (values.Text c.args.written)))
    (heap_then s2 s3 c.put.new.heap (rw c.in_ok-store-2.ensures.ok (keeps_stored s2 entry (values.Text c.args.kind) (values.TerraType c.args.of)))
    c.in_ok-put.ensures.kept))
