use Rattle.tac_copies.proofs.DirectedRuns.{directed-runs}
use Rattle.tac_copies.proofs.laws.directing_keeps_runs.Goals as goal

pub returns : goal.returns
returns c = directed-runs
