use Rattle.std.proofs.Common.{List, ℕ, length, ◌++◌, ap, ◌∙◌}
use Rattle.elf_image.specs.Written.{entries_bytes}
use Rattle.elf_image.proofs.Lengths.{length-entries}
use Rattle.elf_image.proofs.writing.entry_bytes.Goals as goal

pub returns-clause-size : goal.returns-clause-size
returns-clause-size c =
    ap length (c.in_ok-put_entries.ensures ∙ ap (λ (out : List ℕ). out ++ entries_bytes c.args.entries.now) c.in_ok-out.ensures.items)
    ∙ length-entries c.args.entries.now
