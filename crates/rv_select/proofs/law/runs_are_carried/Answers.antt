use Rattle.rv_select.proofs.Runs.{runs-carried}
use Rattle.rv_select.proofs.law.runs_are_carried.Goals as goal

pub returns : goal.returns
returns c = runs-carried
