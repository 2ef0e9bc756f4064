use Rattle.stage_sound.proofs.Promises.{jobs-keep-sound}
use Rattle.stage_sound.proofs.law.jobs_keep_sound.Goals as goal

pub returns : goal.returns
returns c = jobs-keep-sound
