use Rattle.std.proofs.Common.{◌≡◌, drop}
use Rattle.elf_image.specs.Lawful.{names_fit}
use Rattle.elf_image.proofs.lawful.names_fit.Given as goal

abbrev pub invariant-loop-symbol : goal.invariant-loop-symbol
invariant-loop-symbol l = names_fit l.name (drop l.symbol-index l.symbols) ≡ names_fit 36 l.symbols
