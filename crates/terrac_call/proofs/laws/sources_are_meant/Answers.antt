use Rattle.terrac_call.proofs.Whole.{sources_are_meant}
use Rattle.terrac_call.proofs.laws.sources_are_meant.Goals as goal

pub returns : goal.returns
returns c = sources_are_meant
