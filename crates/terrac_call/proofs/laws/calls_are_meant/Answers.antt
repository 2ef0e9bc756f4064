use Rattle.terrac_call.proofs.Meant.{calls_are_meant}
use Rattle.terrac_call.proofs.laws.calls_are_meant.Goals as goal

pub returns : goal.returns
returns c = calls_are_meant
