use Rattle.check_sound.proofs.Beginning.{begins-sound}
use Rattle.check_sound.proofs.law.stagings_begin_sound.Goals as goal

pub returns : goal.returns
returns c = begins-sound
