use Rattle.tac_copies.proofs.DirectedKeepsFits.{directed-fits}
use Rattle.tac_copies.proofs.laws.directing_keeps_fits.Goals as goal

pub returns : goal.returns
returns c = directed-fits
