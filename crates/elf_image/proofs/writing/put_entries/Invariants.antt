use Rattle.std.proofs.Common.{◌≡◌, ◌++◌, drop}
use Rattle.elf_image.specs.Written.{entries_bytes}
use Rattle.elf_image.proofs.writing.put_entries.Given as goal

abbrev pub invariant-loop-entry : goal.invariant-loop-entry
invariant-loop-entry l = l.out.items ++ entries_bytes (drop l.entry-index l.entries) ≡ l.fn.out.items ++ entries_bytes l.entries
