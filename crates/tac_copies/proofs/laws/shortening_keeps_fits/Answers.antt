use Rattle.tac_copies.proofs.ShortenedKeepsFits.{keeps-fits}
use Rattle.tac_copies.proofs.laws.shortening_keeps_fits.Goals as goal

pub returns : goal.returns
returns c = keeps-fits
