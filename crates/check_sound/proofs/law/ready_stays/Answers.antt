use Rattle.check_sound.proofs.Lasting.{ready-stays}
use Rattle.check_sound.proofs.law.ready_stays.Goals as goal

pub returns : goal.returns
returns c = ready-stays
