use Rattle.tac_copies.proofs.TakenKeepsFits.{taken-fits}
use Rattle.tac_copies.proofs.laws.taking_keeps_fits.Goals as goal

pub returns : goal.returns
returns c = taken-fits
