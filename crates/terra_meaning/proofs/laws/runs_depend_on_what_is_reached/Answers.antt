use Rattle.terra_meaning.proofs.Alike.{reached-alone}
use Rattle.terra_meaning.proofs.laws.runs_depend_on_what_is_reached.Goals as goal

pub returns : goal.returns
returns c = reached-alone
