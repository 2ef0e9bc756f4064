use Rattle.tac_copies.proofs.ReachedKeepsFits.{reached-fits}
use Rattle.tac_copies.proofs.laws.reaching_keeps_fits.Goals as goal

pub returns : goal.returns
returns c = reached-fits
