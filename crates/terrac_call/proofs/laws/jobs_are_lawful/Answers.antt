use Rattle.terrac_call.proofs.Ranges.{jobs_are_lawful}
use Rattle.terrac_call.proofs.laws.jobs_are_lawful.Goals as goal

pub returns : goal.returns
returns c = jobs_are_lawful
