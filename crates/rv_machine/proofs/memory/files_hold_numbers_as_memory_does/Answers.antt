use Rattle.terra_memory.proofs.Bytes.{low_bytes-whole}
use Rattle.rv_machine.proofs.Files.{little_number-number_of}
use Rattle.rv_machine.proofs.memory.files_hold_numbers_as_memory_does.Goals as goal

pub returns-clause-read : goal.returns-clause-read
returns-clause-read c = little_number-number_of

pub returns-clause-written : goal.returns-clause-written
returns-clause-written c = low_bytes-whole
