use Rattle.std.proofs.Common.{◌≡◌, ◌+◌, ◌-◌, ◌*◌, ◌++◌}
use Rattle.elf_image.specs.Entries.{entries_at}
use Rattle.elf_image.proofs.entries.read_entries.Given as goal

abbrev pub invariant-loop-i : goal.invariant-loop-i
invariant-loop-i l =
    l.entries.items ++ entries_at (l.count - l.i) l.bytes (l.first + 16 * l.i) ≡ entries_at l.count l.bytes l.first
