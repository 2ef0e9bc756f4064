use Rattle.library_sound.proofs.AskedCalls.{called-fine}
use Rattle.library_sound.proofs.law.calls_ask_sound.Goals as goal

pub returns : goal.returns
returns c = λ s call old. called-fine s old call
