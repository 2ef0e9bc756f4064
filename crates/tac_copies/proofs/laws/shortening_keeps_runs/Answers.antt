use Rattle.tac_copies.proofs.ShortenedRuns.{shortening-keeps-runs}
use Rattle.tac_copies.proofs.laws.shortening_keeps_runs.Goals as goal

pub returns : goal.returns
returns c = shortening-keeps-runs
