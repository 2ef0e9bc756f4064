use Rattle.std.proofs.Common.{◌≡◌, drop}
use Rattle.elf_image.specs.Exports.{names_differ}
use Rattle.elf_image.proofs.names.have_own_names.Given as goal

abbrev pub invariant-loop-i : goal.invariant-loop-i
invariant-loop-i l = names_differ (drop l.i l.symbols) ≡ names_differ l.symbols
