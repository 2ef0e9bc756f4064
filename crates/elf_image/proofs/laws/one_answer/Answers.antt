use Rattle.elf_image.proofs.OneAnswer.{has_one_answer}
use Rattle.elf_image.proofs.laws.one_answer.Goals as goal

pub returns : goal.returns
returns c = λ bytes. has_one_answer bytes
