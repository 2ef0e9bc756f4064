use Rattle.elf_image.proofs.Faults.{verdict_fault}
use Rattle.elf_image.proofs.laws.memory_is_no_fault.Goals as goal

pub returns : goal.returns
returns c = λ bytes e. verdict_fault bytes e
