use Rattle.tac_copies.proofs.CountingKeeps.{counting-fits}
use Rattle.tac_copies.proofs.laws.counting_keeps_fits.Goals as goal

pub returns : goal.returns
returns c = counting-fits
