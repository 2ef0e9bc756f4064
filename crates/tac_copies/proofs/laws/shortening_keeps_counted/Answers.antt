use Rattle.tac_copies.proofs.ShortenedKeepsCounted.{keeps-counted}
use Rattle.tac_copies.proofs.laws.shortening_keeps_counted.Goals as goal

pub returns : goal.returns
returns c = keeps-counted
