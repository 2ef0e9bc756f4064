use Rattle.std.proofs.Common.{◌∙◌, sym, ap, arith}
use Rattle.lua_table.specs.Heap.{table_at}
use Rattle.lua_table.specs.Pairs.{border_of}
use Rattle.check_model.specs.Layouts.{entry_in}
use Rattle.check_flow.proofs.Reading.{entries_stop}
use Rattle.check_flow.proofs.entries.entries_from.Goals as goal

pub returns-in-None : goal.returns-in-None
returns-in-None c =
    let s = c.args.heap.now in
    let pairs = table_at s c.in-Table.table in
    rw c.in-Table.is
    (sym (entries_stop s pairs c.entries.place (border_of pairs)
    (ap (entry_in s) (sym c.in_ok-numbered-in-Table.ensures) ∙ sym c.in_ok-entry-in-Table.ensures ∙ c.in-None.is) (omega arith)))
