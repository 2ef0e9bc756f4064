use Rattle.std.proofs.Common.{arith}
use Rattle.elf_image.specs.Fields.{number_at}
use Rattle.elf_image.proofs.fields.u8_at.Goals as goal

pub returns : goal.returns
unfolding number_at
returns c = omega arith
