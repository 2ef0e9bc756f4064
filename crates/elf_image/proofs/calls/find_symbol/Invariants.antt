use Rattle.std.proofs.Common.{◌≡◌, length}
use Rattle.elf_image.specs.Calls.{symbol_named}
use Rattle.elf_image.proofs.calls.find_symbol.Given as goal

abbrev pub invariant-symbols : goal.invariant-symbols
invariant-symbols l = symbol_named l.name l.rest ≡ symbol_named l.name l.initial.rest

abbrev pub decreases-symbols : goal.decreases-symbols
decreases-symbols l = length l.rest
