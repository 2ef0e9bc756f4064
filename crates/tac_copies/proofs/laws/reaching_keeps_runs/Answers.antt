use Rattle.tac_copies.proofs.ReachedRuns.{reached-runs}
use Rattle.tac_copies.proofs.laws.reaching_keeps_runs.Goals as goal

pub returns : goal.returns
returns c = reached-runs
