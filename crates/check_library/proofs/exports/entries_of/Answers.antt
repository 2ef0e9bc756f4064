use Rattle.lua_table.specs.Heap.{table_at}
use Rattle.check_library.proofs.Walking.{taken_next}
use Rattle.check_library.proofs.exports.entries_of.Goals as goal

pub each-preserved : goal.each-preserved
each-preserved c =
    let l = c.each in
    let w = c.args.world.now in
    taken_next w c.args.at_end l.entries c.take_entry.new.entries _ (table_at w.heap c.args.table) l.place l.invariant
    c.in_ok-take_entry.ensures
