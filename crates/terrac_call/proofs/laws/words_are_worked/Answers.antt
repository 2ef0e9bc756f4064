use Rattle.terrac_call.proofs.Ranges.{are_worked}
use Rattle.terrac_call.proofs.laws.words_are_worked.Goals as goal

pub returns : goal.returns
returns c = are_worked
