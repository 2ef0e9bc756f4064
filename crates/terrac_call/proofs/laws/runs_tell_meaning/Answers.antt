use Rattle.terrac_call.proofs.Headline.{runs_tell_meaning}
use Rattle.terrac_call.proofs.laws.runs_tell_meaning.Goals as goal

pub returns : goal.returns
returns c = runs_tell_meaning
