use Rattle.std.proofs.Common.{◌≡◌, ◌+◌, drop}
use Rattle.elf_image.specs.Written.{names_size}
use Rattle.elf_image.proofs.writing.names_size.Given as goal

abbrev pub invariant-loop-symbol : goal.invariant-loop-symbol
invariant-loop-symbol l = l.size + names_size (drop l.symbol-index l.symbols) ≡ names_size l.symbols
