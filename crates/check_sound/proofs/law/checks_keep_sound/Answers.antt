use Rattle.check_sound.proofs.OfChecks.{checks-keep-sound}
use Rattle.check_sound.proofs.law.checks_keep_sound.Goals as goal

pub returns : goal.returns
returns c = checks-keep-sound
