use Rattle.std.proofs.Common.{arith}
use Rattle.elf_image.specs.Layout.{layout_of}
use Rattle.elf_image.specs.Loads.{image_at}
use Rattle.elf_image.specs.Tests.{verdict_of}
use Rattle.elf_image.proofs.ReadLawful.{image_lawful, ok_lawful}
use Rattle.elf_image.proofs.reading.read.Goals as goal

pub returns-clause-lawful : goal.returns-clause-lawful
returns-clause-lawful c =
    let bytes = c.args.bytes.now in
    ok_lawful c.read_image.result (verdict_of bytes) (image_at (layout_of bytes) bytes) c.read_image.ensures
    (image_lawful bytes (λ i. omega (arith, c.type_inv.bytes i)) c.requires)
