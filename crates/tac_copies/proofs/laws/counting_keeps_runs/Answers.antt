use Rattle.tac_copies.proofs.CountingRuns.{counting-runs}
use Rattle.tac_copies.proofs.laws.counting_keeps_runs.Goals as goal

pub returns : goal.returns
returns c = counting-runs
