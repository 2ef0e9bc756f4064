use Rattle.library_sound.proofs.TerraCalls.{terra-backed}
use Rattle.library_sound.proofs.law.answers_leave_sound.Goals as goal

pub returns : goal.returns
returns c = λ s next answer old. terra-backed s old next answer
