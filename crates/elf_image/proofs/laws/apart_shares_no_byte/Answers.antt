use Rattle.elf_image.proofs.Apart.{apart_iff}
use Rattle.elf_image.proofs.laws.apart_shares_no_byte.Goals as goal

pub returns : goal.returns
returns c = λ p q. apart_iff p q
