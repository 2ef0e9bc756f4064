use Rattle.library_sound.proofs.AskedCalls.{chunk-fine}
use Rattle.library_sound.proofs.law.ends_ask_sound.Goals as goal

pub returns : goal.returns
returns c = λ s place old. chunk-fine s old place
