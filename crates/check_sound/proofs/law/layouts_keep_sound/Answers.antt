use Rattle.check_sound.proofs.OfLayouts.{layouts-keep-sound}
use Rattle.check_sound.proofs.law.layouts_keep_sound.Goals as goal

pub returns : goal.returns
returns c = layouts-keep-sound
