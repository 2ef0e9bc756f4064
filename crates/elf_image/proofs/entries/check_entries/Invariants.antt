use Rattle.std.proofs.Common.{◌≡◌, ◌+◌, ◌-◌, ◌*◌}
use Rattle.elf_image.specs.Entries.{bad_entries_from}
use Rattle.elf_image.proofs.entries.check_entries.Given as goal

abbrev pub invariant-loop-i : goal.invariant-loop-i
invariant-loop-i l =
    bad_entries_from (l.count - l.i) l.text l.count l.bytes (l.first + 16 * l.i) ≡ bad_entries_from l.count l.text l.count l.bytes l.first
