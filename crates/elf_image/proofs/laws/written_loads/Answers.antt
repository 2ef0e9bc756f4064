use Rattle.elf_image.proofs.RoundTrip.{round_trip}
use Rattle.elf_image.proofs.laws.written_loads.Goals as goal

pub returns : goal.returns
returns c = λ image h. round_trip image h
