use Rattle.elf_image.proofs.Steps.{words_at_step, words_at_none, push_turn, push_end}
use Rattle.elf_image.proofs.reading.read_words.Goals as goal

pub loop-i-preserved : goal.loop-i-preserved
loop-i-preserved c =
    rw c.in_ok-push.ensures.items (push_turn c.loop-i.words.items _ _ _ _ _ c.loop-i.invariant (words_at_step c.args.bytes.now c.args.first c.loop-i.i c.args.count c.loop-i-test.true) c.u32_at.ensures)

pub returns : goal.returns
returns c =
    push_end c.loop-i.words.items _ _ c.loop-i.invariant (words_at_none c.args.bytes.now _ c.loop-i.i c.args.count c.loop-i-test.false)
