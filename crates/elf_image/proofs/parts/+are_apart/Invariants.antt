use Rattle.std.proofs.Common.{length}
use Rattle.elf_image.proofs.parts.+are_apart.Given as goal

abbrev pub decreases-are_apart : goal.decreases-are_apart
decreases-are_apart l = length l.parts.now
