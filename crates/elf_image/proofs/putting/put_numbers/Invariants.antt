use Rattle.std.proofs.Common.{◌≡◌, ◌++◌, drop, map}
use Rattle.elf_image.specs.Answers.{row_of}
use Rattle.elf_image.specs.Written.{numbers}
use Rattle.elf_image.proofs.putting.put_numbers.Given as goal

abbrev pub invariant-loop-number : goal.invariant-loop-number
invariant-loop-number l = l.out.items ++ numbers (map row_of (drop l.number-index l.list)) ≡ l.fn.out.items ++ numbers (map row_of l.list)
