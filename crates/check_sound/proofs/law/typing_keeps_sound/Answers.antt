use Rattle.check_sound.proofs.Whole.{keeps-sound}
use Rattle.check_sound.proofs.law.typing_keeps_sound.Goals as goal

pub returns : goal.returns
returns c = keeps-sound
