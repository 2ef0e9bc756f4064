use Rattle.tac_copies.proofs.ShortenedKeepsSized.{keeps-sized}
use Rattle.tac_copies.proofs.laws.shortening_keeps_sized.Goals as goal

pub returns : goal.returns
returns c = keeps-sized
