use Rattle.tac_counts.proofs.Needing.{needs}
use Rattle.tac_counts.proofs.laws.runs_need_what_is_not_left.Goals as goal

pub returns : goal.returns
returns c = needs
