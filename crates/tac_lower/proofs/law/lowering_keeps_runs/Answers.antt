use Rattle.tac_lower.proofs.Keeps.{lowering_keeps_runs}
use Rattle.tac_lower.proofs.law.lowering_keeps_runs.Goals as goal

pub returns : goal.returns
returns c = lowering_keeps_runs
