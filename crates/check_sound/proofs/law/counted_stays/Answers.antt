use Rattle.check_sound.proofs.Counted.{counted-stays}
use Rattle.check_sound.proofs.law.counted_stays.Goals as goal

pub returns : goal.returns
returns c = counted-stays
