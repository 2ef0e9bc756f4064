use Rattle.rv_operators.proofs.Runs.{straight-runs}
use Rattle.rv_operators.proofs.law.straight_code_runs.Goals as goal

pub returns : goal.returns
returns c = straight-runs
