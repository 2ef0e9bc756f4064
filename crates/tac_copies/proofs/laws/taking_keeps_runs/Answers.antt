use Rattle.tac_copies.proofs.TakenRuns.{taken-runs}
use Rattle.tac_copies.proofs.laws.taking_keeps_runs.Goals as goal

pub returns : goal.returns
returns c = taken-runs
