use Rattle.elf_image.proofs.Steps.{entries_at_step, entries_at_none, push_turn, push_end}
use Rattle.elf_image.proofs.entries.read_entries.Goals as goal

pub loop-i-preserved : goal.loop-i-preserved
loop-i-preserved c =
    rw c.in_ok-push.ensures.items (push_turn c.loop-i.entries.items _ _ _ _ _ c.loop-i.invariant (entries_at_step c.args.bytes.now c.args.first c.loop-i.i c.args.count c.loop-i-test.true) c.entry_at.ensures)

pub returns : goal.returns
returns c =
    push_end c.loop-i.entries.items _ _ c.loop-i.invariant (entries_at_none c.args.bytes.now _ c.loop-i.i c.args.count c.loop-i-test.false)
