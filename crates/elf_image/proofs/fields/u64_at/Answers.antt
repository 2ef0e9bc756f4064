use Rattle.std.proofs.Common.{◌∙◌}
use Rattle.elf_image.proofs.Numbers.{number_at-rest}
use Rattle.elf_image.proofs.fields.u64_at.Goals as goal

pub returns : goal.returns
returns c = c.read_u64.ensures ∙ number_at-rest 8 c.args.at c.args.bytes.now
