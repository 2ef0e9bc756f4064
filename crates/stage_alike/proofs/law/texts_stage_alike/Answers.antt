use Rattle.stage_alike.proofs.Outcomes.{texts_stage_alike}
use Rattle.stage_alike.proofs.law.texts_stage_alike.Goals as goal

pub returns : goal.returns
returns c = texts_stage_alike
