use Rattle.elf_image.proofs.Puts.{append_turn_by, append_end, entries_turn, entries_end}
use Rattle.elf_image.proofs.writing.put_entries.Goals as goal

pub loop-entry-preserved : goal.loop-entry-preserved
loop-entry-preserved c =
    append_turn_by c.loop-entry.out.items _ _ _ _ _ c.in_ok-put_numbers.ensures c.loop-entry.invariant (entries_turn c.args.entries.now c.loop-entry.entry-index _ c.loop-entry-test.true)

pub returns : goal.returns
returns c = append_end _ _ _ c.loop-entry.invariant (entries_end c.args.entries.now _ c.loop-entry-test.false)
