use Rattle.std.proofs.Common.{◌≡◌, drop}
use Rattle.elf_image.specs.Exports.{names_differ}
use Rattle.elf_image.proofs.NameSets.{rest_differs}
use Rattle.elf_image.proofs.names.names_differ.Given as goal

abbrev pub invariant-loop-symbol : goal.invariant-loop-symbol
invariant-loop-symbol l = names_differ l.symbols ≡ rest_differs l.names.keys (drop l.symbol-index l.symbols)
