use Rattle.terra_memory.proofs.Bytes.{number_of-low_bytes}
use Rattle.terra_memory.proofs.laws.low_bytes_make_the_number.Goals as goal

pub returns : goal.returns
returns c = number_of-low_bytes
