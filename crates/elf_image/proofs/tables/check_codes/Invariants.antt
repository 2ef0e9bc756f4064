use Rattle.std.proofs.Common.{◌≡◌, ◌-◌}
use Rattle.elf_image.specs.Fields.{bad_fields}
use Rattle.elf_image.specs.Exports.{code_fields}
use Rattle.elf_image.proofs.tables.check_codes.Given as goal

abbrev pub invariant-loop-i : goal.invariant-loop-i
invariant-loop-i l =
    bad_fields l.bytes l.entry (code_fields l.params l.i (8 - l.i)) ≡ bad_fields l.bytes l.entry (code_fields l.params 0 8)
