use Rattle.std.proofs.Common.{◌≡◌, ◌+◌, ◌-◌, ◌*◌, ◌++◌}
use Rattle.elf_image.specs.Loads.{words_at}
use Rattle.elf_image.proofs.reading.read_words.Given as goal

abbrev pub invariant-loop-i : goal.invariant-loop-i
invariant-loop-i l =
    l.words.items ++ words_at (l.count - l.i) l.bytes (l.first + 4 * l.i) ≡ words_at l.count l.bytes l.first
