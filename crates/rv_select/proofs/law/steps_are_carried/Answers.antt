use Rattle.rv_select.proofs.Runs.{steps-carried}
use Rattle.rv_select.proofs.law.steps_are_carried.Goals as goal

pub returns : goal.returns
returns c = steps-carried
