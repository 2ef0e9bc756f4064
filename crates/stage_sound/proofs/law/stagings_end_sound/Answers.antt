use Rattle.stage_sound.proofs.Promises.{stagings-end-sound}
use Rattle.stage_sound.proofs.law.stagings_end_sound.Goals as goal

pub returns : goal.returns
returns c = stagings-end-sound
