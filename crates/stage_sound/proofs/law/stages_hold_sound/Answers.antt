use Rattle.stage_sound.proofs.Promises.{stages_hold_sound}
use Rattle.stage_sound.proofs.law.stages_hold_sound.Goals as goal

pub returns : goal.returns
returns c = stages_hold_sound
