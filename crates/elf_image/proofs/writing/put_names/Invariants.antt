use Rattle.std.proofs.Common.{◌≡◌, ◌++◌, drop}
use Rattle.elf_image.specs.Written.{names_bytes}
use Rattle.elf_image.proofs.writing.put_names.Given as goal

abbrev pub invariant-loop-symbol : goal.invariant-loop-symbol
invariant-loop-symbol l = l.out.items ++ names_bytes (drop l.symbol-index l.symbols) ≡ l.fn.out.items ++ names_bytes l.symbols
