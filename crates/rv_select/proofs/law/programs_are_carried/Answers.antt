use Rattle.rv_select.proofs.Entire.{programs-carried}
use Rattle.rv_select.proofs.law.programs_are_carried.Goals as goal

pub returns : goal.returns
returns c = programs-carried
