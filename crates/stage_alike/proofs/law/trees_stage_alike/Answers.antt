use Rattle.stage_alike.proofs.Outcomes.{trees_stage_alike}
use Rattle.stage_alike.proofs.law.trees_stage_alike.Goals as goal

pub returns : goal.returns
returns c = trees_stage_alike
