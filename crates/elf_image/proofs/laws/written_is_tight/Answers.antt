use Rattle.elf_image.proofs.Lengths.{stands}
use Rattle.elf_image.proofs.laws.written_is_tight.Goals as goal

pub returns : goal.returns
returns c = λ image h. (stands image h).size
