use Rattle.elf_image.proofs.Puts.{append_turn_by, append_end, numbers_turn, numbers_end}
use Rattle.elf_image.proofs.putting.put_numbers.Goals as goal

pub loop-number-preserved : goal.loop-number-preserved
loop-number-preserved c =
    append_turn_by c.loop-number.out.items _ _ _ _ _ c.in_ok-put_number.ensures c.loop-number.invariant (numbers_turn c.args.list.now c.loop-number.number-index _ c.loop-number-test.true)

pub returns : goal.returns
returns c = append_end _ _ _ c.loop-number.invariant (numbers_end c.args.list.now _ c.loop-number-test.false)
