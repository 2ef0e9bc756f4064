use Rattle.rv_select.proofs.Begins.{entries-carried}
use Rattle.rv_select.proofs.law.entries_are_carried.Goals as goal

pub returns : goal.returns
returns c = entries-carried
