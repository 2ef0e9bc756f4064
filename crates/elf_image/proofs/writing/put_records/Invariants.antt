use Rattle.std.proofs.Common.{◌≡◌, ◌++◌, drop, true}
use Rattle.std.specs.List.{list_all}
use Rattle.elf_image.specs.Lawful.{names_fit, is_lawful_symbol}
use Rattle.elf_image.specs.Written.{records_bytes}
use Rattle.elf_image.proofs.writing.put_records.Given as goal

abbrev pub invariant-loop-symbol : goal.invariant-loop-symbol
invariant-loop-symbol l =
    (l.out.items ++ records_bytes l.name (drop l.symbol-index l.symbols) ≡ l.fn.out.items ++ records_bytes 36 l.symbols)
    × (names_fit l.name (drop l.symbol-index l.symbols) ≡ true)
    × (list_all (is_lawful_symbol l.text) (drop l.symbol-index l.symbols) ≡ true)
