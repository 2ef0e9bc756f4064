use Rattle.library_sound.proofs.TerraCalls.{terra-called}
use Rattle.library_sound.proofs.law.calls_leave_sound.Goals as goal

pub returns : goal.returns
returns c = λ s call h old. terra-called s old call h
