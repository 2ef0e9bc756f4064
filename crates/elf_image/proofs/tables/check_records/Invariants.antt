use Rattle.std.proofs.Common.{◌≡◌, ◌+◌, ◌-◌, ◌*◌}
use Rattle.elf_image.specs.Exports.{bad_records}
use Rattle.elf_image.proofs.tables.check_records.Given as goal

abbrev pub invariant-loop-i : goal.invariant-loop-i
invariant-loop-i l = bad_records (l.count - l.i) l.bytes (l.first + 24 * l.i) ≡ bad_records l.count l.bytes l.first
