use Rattle.lua_table.specs.Heap.{with_cell, with_declared}
use Rattle.lua_table.proofs.Keeping.{keeps_cell, keeps_declared}
use Rattle.lua_table.proofs.Keeping.{heap_keeps_by, heap_kept_as}
use Rattle.spec_machine.proofs.names.declare_in.Goals as goal

pub returns-clause-kept : goal.returns-clause-kept
returns-clause-kept c =
    let a = c.args in
    let s = a.heap.now in
    let t = c.new_cell.new.self in
    let u = c.declare.new.self in
    let cell = c.in_ok-cell.cell in
    heap_keeps_by s t (with_cell s a.value) u c.in_ok-cell.ensures.ok (keeps_cell s a.value)
    (heap_kept_as t u (with_declared t a.env cell) c.in_ok-declare.ensures.ok (keeps_declared t a.env cell))
