use Rattle.spec_sound.proofs.Whole.{specialising-keeps}
use Rattle.spec_sound.proofs.law.specialising_keeps_sound.Goals as goal

pub returns : goal.returns
returns c = specialising-keeps
