use Rattle.elf_image.proofs.Puts.{append_turn_by, append_end, words_turn, words_end}
use Rattle.elf_image.proofs.putting.put_words.Goals as goal

pub loop-word-preserved : goal.loop-word-preserved
loop-word-preserved c =
    append_turn_by c.loop-word.out.items _ _ _ _ _ c.in_ok-put_u32.ensures c.loop-word.invariant (words_turn c.args.words.now c.loop-word.word-index c.loop-word-test.true)

pub returns : goal.returns
returns c = append_end _ _ _ c.loop-word.invariant (words_end c.args.words.now _ c.loop-word-test.false)
